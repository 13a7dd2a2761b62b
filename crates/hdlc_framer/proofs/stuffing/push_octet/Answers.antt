use Rattle.hdlc_framer.proofs.Common.{◌≡◌, ◌++◌, ◌∷◌, [], ◌/◌, ◌^◌, eqb, bit_and, ap, sym, ◌∙◌, arith, low_bits}
use Rattle.hdlc_framer.proofs.Common.{octet_bits, stuffed_from, left_after}
use Rattle.hdlc_framer.proofs.BitLemmas.{low_bits-more}
use Rattle.hdlc_framer.proofs.StuffingLemmas.{left_after-le}
use Rattle.hdlc_framer.proofs.StuffLemmas.{sent_more, left_more}
use Rattle.hdlc_framer.proofs.stuffing.push_octet.Goals as goal

pub loop-place-preserved : goal.loop-place-preserved
loop-place-preserved c =
    let loop = c.loop-place in
    let before = c.args.bits.now.items in
    let bits = low_bits loop.place c.args.octet in
    let bit = eqb (bit_and (c.args.octet / 2 ^ loop.place) 1) 1 in
    let more = sym (low_bits-more loop.place c.args.octet) in
    record {
      bits = sent_more bits (bit ∷ []) c.args.left loop.left before loop.bits.items c.push_bit.new.bits.items
          loop.invariant.bits loop.invariant.left c.in_ok-left.ensures.bits
          ∙ ap (λ xs. before ++ stuffed_from xs c.args.left) more;
      left = left_more bits (bit ∷ []) c.args.left loop.left c.in_ok-left.left loop.invariant.left
          c.in_ok-left.ensures.left ∙ ap (λ xs. left_after xs c.args.left) more;
      few = omega (arith, left_after-le (bit ∷ []) loop.left loop.invariant.few, c.in_ok-left.ensures.left);
    }

pub returns-clause-bits : goal.returns-clause-bits
unfolding octet_bits
returns-clause-bits c =
    let all : c.loop-place.place ≡ 8 = omega arith in
    c.loop-place.invariant.bits ∙ ap (λ n. c.args.bits.now.items ++ stuffed_from (low_bits n c.args.octet) c.args.left)
    all

pub returns-clause-left : goal.returns-clause-left
unfolding octet_bits
returns-clause-left c =
    let all : c.loop-place.place ≡ 8 = omega arith in
    c.loop-place.invariant.left ∙ ap (λ n. left_after (low_bits n c.args.octet) c.args.left) all
