use Rattle.slicer_bank.proofs.RingGatheringLemmas.{HaveGiven}
use Rattle.slicer_bank.proofs.ring_lanes.gather.Given as goal

abbrev pub invariant-loop-index : goal.invariant-loop-index
invariant-loop-index l = HaveGiven l.fn.lanes l.lanes l.index l.positions l.candidates.items l.gaps.items l.ended
