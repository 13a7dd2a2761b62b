use Rattle.slicer_bank.proofs.MarkLemmas.{HasMarked}
use Rattle.slicer_bank.proofs.ring_merging.mark_each.Given as goal

abbrev pub invariant-loop-lane : goal.invariant-loop-lane
invariant-loop-lane l = HasMarked 8 l.fn.merger l.merger l.fn.positions l.lane
