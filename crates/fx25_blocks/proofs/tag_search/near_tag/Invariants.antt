-- The bits are near no tag seen so far.
use Rattle.fx25_blocks.proofs.Common.{ℕ, ◌<◌, ◌≤◌, bits_of_64, differing, tag_bits}
use Rattle.fx25_blocks.proofs.tag_search.near_tag.Given as goal

abbrev pub invariant-loop-place : goal.invariant-loop-place
invariant-loop-place l = (n : ℕ) → 1 ≤ n → n ≤ l.place → 12 < differing (bits_of_64 l.register) (tag_bits n)
