use Rattle.fx25_blocks.proofs.Common.{◌≡◌, ℕ, ◌+◌, ◌-◌, ◌%◌, ◌<◌, false, length, get_or}
use Rattle.fx25_blocks.proofs.recent.recent.Given as goal

abbrev pub invariant-loop-i : goal.invariant-loop-i
invariant-loop-i l = record {
  size : length l.bits.items ≡ l.i;
  each : (k : ℕ) → k < l.i → get_or l.bits.items k false ≡ get_or l.ring ((l.next + 2048 - l.count + k) % 2048) false;
}
