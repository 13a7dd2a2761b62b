use Rattle.slicer_bank.proofs.FreshLanes.{AreFresh}
use Rattle.slicer_bank.proofs.lane.new_lanes.Given as goal

abbrev pub invariant-loop : goal.invariant-loop
invariant-loop l = AreFresh l.fn.flags l.counter l.lanes.items
