use Rattle.std.specs.Prelude.{◌+◌, ◌≤◌}
use Rattle.sensitive_blocks.proofs.ReceiverLemmas.{HasEnded}
use Rattle.sensitive_blocks.proofs.receiver.SensitiveBlocksReceiver.hear_rest.Given as goal

abbrev pub invariant-loop-i : goal.invariant-loop-i
invariant-loop-i l = record {
  ended : HasEnded l.initial.self l.self l.initial.given.items l.given.items l.i;
  least : 32 ≤ l.position + l.i;
}
