-- What remains of the bits, and the counts of the pieces before it.
use Rattle.fx25_blocks.proofs.Common.{◌≡◌, ◌*◌, ◌/◌, ◌^◌}
use Rattle.std.proofs.Common.{map}
use Rattle.fx25_blocks.specs.CoarseCounts.{coarse_total, packed, tag_numbers}
use Rattle.fx25_blocks.proofs.coarse_counts.is_far.Given as goal

abbrev pub invariant-loop-piece : goal.invariant-loop-piece
invariant-loop-piece l = record {
  rest : l.rest ≡ l.register / 2 ^ (8 * l.piece);
  counts : l.counts ≡ packed (map (coarse_total l.register l.piece) tag_numbers);
}
