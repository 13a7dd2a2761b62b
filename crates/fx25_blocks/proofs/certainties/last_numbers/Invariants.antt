use Rattle.fx25_blocks.proofs.Common.{◌≡◌, ℕ, ◌+◌, ◌-◌, ◌%◌, ◌<◌, length, get_or}
use Rattle.fx25_blocks.proofs.certainties.last_numbers.Given as goal

abbrev pub invariant-loop-i : goal.invariant-loop-i
invariant-loop-i l = record {
  size : length l.numbers.items ≡ l.i;
  each : (k : ℕ) → k < l.i → get_or l.numbers.items k 0 ≡ get_or l.ring ((l.next + 2048 - l.count + k) % 2048) 0;
}
