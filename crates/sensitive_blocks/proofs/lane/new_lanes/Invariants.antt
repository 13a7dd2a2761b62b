use Rattle.sensitive_blocks.proofs.LaneLemmas.{AreFresh}
use Rattle.sensitive_blocks.proofs.lane.new_lanes.Given as goal

abbrev pub invariant-loop : goal.invariant-loop
invariant-loop l = AreFresh l.counter l.lanes.items
