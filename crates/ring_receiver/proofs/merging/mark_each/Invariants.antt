use Rattle.ring_receiver.proofs.Common.{◌++◌, replicate}
use Rattle.slicer_bank.proofs.MarkLemmas.{HasMarked}
use Rattle.ring_receiver.proofs.merging.mark_each.Given as goal

abbrev pub invariant-loop-lane : goal.invariant-loop-lane
invariant-loop-lane l = HasMarked 26 l.fn.merger l.merger (l.fn.positions ++ replicate 18 l.position) l.lane

abbrev pub invariant-loop-lane-2 : goal.invariant-loop-lane-2
invariant-loop-lane-2 l = HasMarked 26 l.fn.merger l.merger (l.fn.positions ++ replicate 18 l.position) l.lane
