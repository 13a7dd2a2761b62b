-- Each bit so far was one of the frame.
use Rattle.channel_access.proofs.Common.{◌≡◌, ◌+◌, length, frame_bits, stuffed_rest}
use Rattle.channel_access.proofs.block_bits.bits_needed.Given as goal

abbrev pub invariant-loop-count : goal.invariant-loop-count
invariant-loop-count l = record {
  left : l.count + length (stuffed_rest l.at l.octets) ≡ length (frame_bits l.octets);
}
