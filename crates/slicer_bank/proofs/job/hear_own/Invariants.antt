use Rattle.slicer_bank.proofs.Common.{length}
use Rattle.slicer_bank.proofs.OwnLemmas.{OwnHeard}
use Rattle.slicer_bank.proofs.job.hear_own.Given as goal

abbrev pub decreases-loop-window : goal.decreases-loop-window
decreases-loop-window l = length l.rest

abbrev pub invariant-loop-window : goal.invariant-loop-window
invariant-loop-window l = OwnHeard l.offset l.position l.end l.piece l.rest l.initial.lane l.lane l.initial.found.items
    l.found.items
