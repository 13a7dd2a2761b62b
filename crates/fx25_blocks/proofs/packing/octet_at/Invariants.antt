-- The bits so far are the lowest of the octet.
use Rattle.fx25_blocks.proofs.Common.{◌≡◌, ◌<◌, ◌^◌, take, low_bits}
use Rattle.fx25_blocks.proofs.packing.octet_at.Given as goal

abbrev pub invariant-loop-place : goal.invariant-loop-place
invariant-loop-place l = record {
  bits : low_bits l.place l.octet ≡ take l.place l.sent;
  below : l.octet < 2 ^ l.place;
}
