use Rattle.slicer_bank.proofs.RingBusyLemmas.{NoneBusy}
use Rattle.slicer_bank.proofs.ring_lanes.is_some_busy.Given as goal

abbrev pub invariant-loop-lane : goal.invariant-loop-lane
invariant-loop-lane l = NoneBusy l.detection l.lanes l.lane-index
