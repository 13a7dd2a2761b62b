use Rattle.sensitive_receiver.proofs.Common.{◌≡◌, [], length, All}
use Rattle.slicer_bank.specs.ToneLanes.{ToneLaneStandsFor}
use Rattle.sensitive_receiver.proofs.fixed_bank.new_lanes.Given as goal

-- so many lanes were made
abbrev pub invariant-loop : goal.invariant-loop
invariant-loop l = record {
  count : length l.lanes.items ≡ l.counter;
  fresh : All (λ lane. ToneLaneStandsFor lane []) l.lanes.items;
}
