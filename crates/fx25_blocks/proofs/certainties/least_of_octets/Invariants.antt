use Rattle.fx25_blocks.proofs.Common.{◌≡◌, ℕ, ◌*◌, ◌<◌, length, take, drop, get_or}
use Rattle.fx25_blocks.specs.UnsureBlocks.{least_of}
use Rattle.fx25_blocks.proofs.certainties.least_of_octets.Given as goal

abbrev pub invariant-loop-place : goal.invariant-loop-place
invariant-loop-place l = record {
  size : length l.octets.items ≡ l.place;
  each : (k : ℕ) → k < l.place → get_or l.octets.items k 0 ≡ least_of (take 8 (drop (8 * k) l.numbers));
}
