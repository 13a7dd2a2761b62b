-- The lowest bits of the octet have been sent.
use Rattle.hdlc_framer.proofs.Common.{◌≡◌, ◌++◌, ◌≤◌, low_bits, stuffed_from, left_after}
use Rattle.hdlc_framer.proofs.stuffing.push_octet.Given as goal

abbrev pub invariant-loop-place : goal.invariant-loop-place
invariant-loop-place l = record {
  bits : l.bits.items ≡ l.initial.bits.items ++ stuffed_from (low_bits l.place l.octet) l.initial.left;
  left : l.left ≡ left_after (low_bits l.place l.octet) l.initial.left;
  few : l.left ≤ 4;
}
