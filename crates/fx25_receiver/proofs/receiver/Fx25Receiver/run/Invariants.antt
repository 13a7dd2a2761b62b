use Rattle.fx25_receiver.proofs.Common.{length}
use Rattle.fx25_receiver.proofs.BlockLemmas.{HasSlid}
use Rattle.fx25_receiver.proofs.receiver.Fx25Receiver.run.Given as goal

abbrev pub decreases-loop-stretch : goal.decreases-loop-stretch
decreases-loop-stretch l = length l.rest

abbrev pub invariant-loop-stretch : goal.invariant-loop-stretch
invariant-loop-stretch l =
    HasSlid l.initial.self l.self l.piece l.rest l.initial.given.items l.given.items
