use Rattle.std.proofs.Common.{◌≡◌, ◌+◌, length}
use Rattle.receiver_tests.proofs.tests.bank.heard_in_blocks.Given as goal

abbrev pub invariant-loop-rest : goal.invariant-loop-rest
invariant-loop-rest g l = l.bank.position + length l.rest ≡ length l.samples

abbrev pub decreases-loop-rest : goal.decreases-loop-rest
decreases-loop-rest g l = length l.rest
