use Rattle.hdlc_framer.proofs.Common.{◌++◌, get_or, take, ap, sym, ◌∙◌, arith, take_more, octet_bits, sent_bits}
use Rattle.hdlc_framer.proofs.Common.{stuffed_from, left_after}
use Rattle.hdlc_framer.proofs.BitLemmas.{sent_bits-push}
use Rattle.hdlc_framer.proofs.StuffingLemmas.{left_after-le}
use Rattle.hdlc_framer.proofs.StuffLemmas.{sent_more, left_more}
use Rattle.hdlc_framer.proofs.stuffing.push_octets.Goals as goal

pub loop-octet-preserved : goal.loop-octet-preserved
loop-octet-preserved c =
    let loop = c.loop-octet in
    let before = c.args.bits.now.items in
    let octets = c.args.octets.now in
    let bits = sent_bits (take loop.octet-index octets) in
    let octet = get_or octets loop.octet-index 0 in
    let more = sym (ap sent_bits (take_more octets loop.octet-index 0 (omega arith))
    ∙ sent_bits-push (take loop.octet-index octets) octet) in
    record {
      bits = sent_more bits (octet_bits octet) c.args.left loop.left before loop.bits.items c.push_octet.new.bits.items
          loop.invariant.bits loop.invariant.left c.in_ok-left.ensures.bits
          ∙ ap (λ xs. before ++ stuffed_from xs c.args.left) more;
      left = left_more bits (octet_bits octet) c.args.left loop.left c.in_ok-left.left loop.invariant.left
          c.in_ok-left.ensures.left ∙ ap (λ xs. left_after xs c.args.left) more;
      few = omega (arith, left_after-le (octet_bits octet) loop.left loop.invariant.few, c.in_ok-left.ensures.left);
    }
