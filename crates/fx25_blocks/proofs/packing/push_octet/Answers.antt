use Rattle.fx25_blocks.proofs.Common.{◌≡◌, ◌<◌, ◌/◌, ◌^◌, ◌∷◌, [], ◌++◌, length, eqb, ap, sym, ◌∙◌, arith, bit_and}
use Rattle.fx25_blocks.proofs.Common.{low_bits}
use Rattle.fx25_blocks.proofs.Common.{octet_bits, append_assoc, length-append}
use Rattle.hdlc_framer.proofs.BitLemmas.{length-low_bits, low_bits-more}
use Rattle.fx25_blocks.proofs.packing.push_octet.Goals as goal

pub push-requires : goal.push-requires
push-requires c =
    let sent = low_bits c.loop-place.place c.args.octet in
    let room : length c.loop-place.bits.items < 2040 = omega (
      arith,
      ap length c.loop-place.invariant,
      length-append c.args.bits.now.items sent,
      length-low_bits c.loop-place.place c.args.octet,
    ) in
    (omega arith, room)

pub loop-place-preserved : goal.loop-place-preserved
loop-place-preserved c =
    let place = c.loop-place.place in
    let octet = c.args.octet in
    let bit = eqb (bit_and (octet / 2 ^ place) 1) 1 in
    c.push.ensures.items ∙ ap (λ xs. xs ++ bit ∷ []) c.loop-place.invariant
    ∙ append_assoc c.args.bits.now.items (low_bits place octet) (bit ∷ [])
    ∙ ap (λ xs. c.args.bits.now.items ++ xs) (sym (low_bits-more place octet))

pub returns : goal.returns
unfolding octet_bits
returns c =
    let all : c.loop-place.place ≡ 8 = omega arith in
    c.loop-place.invariant ∙ ap (λ n. c.args.bits.now.items ++ low_bits n c.args.octet) all
