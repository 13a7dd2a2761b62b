-- The octets so far have been sent.
use Rattle.hdlc_framer.proofs.Common.{◌≡◌, ◌++◌, ◌≤◌, take, sent_bits, stuffed_from, left_after}
use Rattle.hdlc_framer.proofs.stuffing.push_octets.Given as goal

abbrev pub invariant-loop-octet : goal.invariant-loop-octet
invariant-loop-octet l = record {
  bits : l.bits.items ≡ l.initial.bits.items ++ stuffed_from (sent_bits (take l.octet-index l.octets)) l.initial.left;
  left : l.left ≡ left_after (sent_bits (take l.octet-index l.octets)) l.initial.left;
  few : l.left ≤ 4;
}
