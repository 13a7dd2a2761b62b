use Rattle.slicer_bank.proofs.FeedLemmas.{DidJob}
use Rattle.slicer_bank.proofs.GatheringLemmas.{Visited}
use Rattle.slicer_bank.proofs.gathering.hear_in_turn.Given as goal

abbrev pub invariant-loop-offset : goal.invariant-loop-offset
invariant-loop-offset l = Visited (DidJob l.position l.recent l.block) l.initial.lanes l.lanes l.offset
