use Rattle.fx25_blocks.proofs.Common.{◌≡◌, ◌*◌, length, take, sent_bits}
use Rattle.fx25_blocks.proofs.packing.pack.Given as goal

abbrev pub invariant-loop-place : goal.invariant-loop-place
invariant-loop-place l = record {
  bits : sent_bits l.word.items ≡ take (8 * l.place) l.bits;
  count : length l.word.items ≡ l.place;
}
