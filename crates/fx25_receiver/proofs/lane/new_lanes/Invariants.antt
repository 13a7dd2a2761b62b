use Rattle.fx25_receiver.proofs.LaneLemmas.{AreFresh}
use Rattle.fx25_receiver.proofs.lane.new_lanes.Given as goal

abbrev pub invariant-loop : goal.invariant-loop
invariant-loop l = AreFresh l.counter l.lanes.items
