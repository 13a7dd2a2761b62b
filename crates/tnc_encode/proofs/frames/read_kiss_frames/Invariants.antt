-- The octets so far.
use Rattle.tnc_encode.proofs.Common.{◌≡◌, take, StandsFor, kiss_frames}
use Rattle.tnc_encode.proofs.frames.read_kiss_frames.Given as goal

abbrev pub invariant-loop-octet : goal.invariant-loop-octet
invariant-loop-octet l = record {
  stands_for : StandsFor l.stream (take l.octet-index l.octets);
  frames_so_far : l.frames.items ≡ kiss_frames (take l.octet-index l.octets);
}
