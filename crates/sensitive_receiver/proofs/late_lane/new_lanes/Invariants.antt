use Rattle.sensitive_receiver.proofs.Common.{All, LaneStandsFor}
use Rattle.std.specs.Prelude.{◌≡◌, [], length}
use Rattle.sensitive_receiver.proofs.late_lane.new_lanes.Given as goal

-- so many lanes were made
abbrev pub invariant-loop : goal.invariant-loop
invariant-loop l = record {
  count : length l.lanes.items ≡ l.counter;
  fresh : All (λ lane. LaneStandsFor lane []) l.lanes.items;
}
