use Rattle.fx25_receiver.proofs.Common.{length}
use Rattle.fx25_receiver.proofs.BlockLemmas.{HasFollowed}
use Rattle.fx25_receiver.proofs.receiver.Fx25Receiver.follow.Given as goal

abbrev pub decreases-loop-window : goal.decreases-loop-window
decreases-loop-window l = length l.rest

abbrev pub invariant-loop-window : goal.invariant-loop-window
invariant-loop-window l =
    HasFollowed l.initial.self l.self l.waiting l.piece l.rest l.initial.given.items l.given.items
