use Rattle.hf_modem.proofs.Common.{◌≡◌, [], length, All, ToneLaneStandsFor}
use Rattle.hf_modem.specs.Held.{AsksFor}
use Rattle.hf_modem.proofs.bank.new_lanes.Given as goal

-- so many lanes were made
abbrev pub invariant-loop : goal.invariant-loop
invariant-loop l = record {
  count : length l.lanes.items ≡ l.counter;
  fresh : All (λ lane. ToneLaneStandsFor lane []) l.lanes.items;
  asks : All (AsksFor l.fn.flags) l.lanes.items;
}
