use Rattle.frame_merge.proofs.Common.{length}
use Rattle.frame_merge.proofs.Searching.{Searched}
use Rattle.frame_merge.proofs.ready.is_repeated.Given as goal

abbrev pub invariant-loop-last : goal.invariant-loop-last
invariant-loop-last l = Searched l.item l.earlier l.rest

abbrev pub decreases-loop-last : goal.decreases-loop-last
decreases-loop-last l = length l.rest
