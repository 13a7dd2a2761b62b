use Rattle.fx25_blocks.proofs.Common.{◌≡◌, ℕ, ◌<◌, get_or}
use Rattle.fx25_blocks.proofs.opening.leading_flags.Given as goal

abbrev pub invariant-loop-i : goal.invariant-loop-i
invariant-loop-i l = (k : ℕ) → k < l.i → get_or l.octets k 0 ≡ 126
