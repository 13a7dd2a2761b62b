use Rattle.sensitive_blocks.proofs.ReceiverLemmas.{HasFed}
use Rattle.sensitive_blocks.proofs.receiver.SensitiveBlocksReceiver.take.Given as goal

abbrev pub invariant-loop-i : goal.invariant-loop-i
invariant-loop-i l = HasFed l.initial.self l.self l.line l.block l.initial.given.items l.given.items l.i
