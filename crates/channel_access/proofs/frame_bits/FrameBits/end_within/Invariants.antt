-- Each bit so far was one of the frame.
use Rattle.channel_access.proofs.Common.{◌≡◌, ◌+◌, length, frame_rest}
use Rattle.channel_access.proofs.frame_bits.FrameBits.end_within.Given as goal

abbrev pub invariant-loop : goal.invariant-loop
invariant-loop l = record {
  left : l.counter + length (frame_rest l.at l.fn.octets) ≡ length (frame_rest l.fn.self l.fn.octets);
}
