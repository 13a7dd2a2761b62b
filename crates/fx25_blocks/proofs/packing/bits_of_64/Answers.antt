use Rattle.fx25_blocks.proofs.Common.{◌≡◌, ◌<◌, ◌/◌, ◌^◌, ◌∷◌, [], ◌++◌, length, eqb, ap, sym, ◌∙◌, arith, bit_and}
use Rattle.fx25_blocks.proofs.Common.{low_bits}
use Rattle.fx25_blocks.proofs.Common.{bits_of_64}
use Rattle.hdlc_framer.proofs.BitLemmas.{length-low_bits, low_bits-more}
use Rattle.fx25_blocks.proofs.packing.bits_of_64.Goals as goal

pub push-requires : goal.push-requires
push-requires c =
    let room : length c.loop-place.bits.items < 64 = omega (
      arith,
      ap length c.loop-place.invariant,
      length-low_bits c.loop-place.place c.args.value,
    ) in
    (omega arith, room)

pub loop-place-preserved : goal.loop-place-preserved
loop-place-preserved c =
    let place = c.loop-place.place in
    let value = c.args.value in
    let bit = eqb (bit_and (value / 2 ^ place) 1) 1 in
    c.push.ensures.items ∙ ap (λ xs. xs ++ bit ∷ []) c.loop-place.invariant ∙ sym (low_bits-more place value)

pub returns : goal.returns
unfolding bits_of_64
returns c =
    let all : c.loop-place.place ≡ 64 = omega arith in
    c.loop-place.invariant ∙ ap (λ n. low_bits n c.args.value) all
