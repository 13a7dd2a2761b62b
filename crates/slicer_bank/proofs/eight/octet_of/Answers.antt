use Rattle.slicer_bank.proofs.Common.{◌≡◌, ◌∙◌, ◌∷◌, [], ◌+◌, ◌*◌, ℕ, Bool, List, get_or, ap, sym, refl, Tone}
use Rattle.std.proofs.Common.{cond}
use Rattle.tone_table.specs.declared.tone.Tone.TheVariants.{Mark}
use Rattle.nrzi_bits.specs.Line.{bits_from, same_tone}
use Rattle.hdlc_framer.specs.BitOrder.{number_of}
use Rattle.slicer_bank.proofs.EightLemmas.{bit_above, eight_tones, octet_is}
use Rattle.slicer_bank.proofs.eight.octet_of.Goals as goal

-- a bit that says whether two tones agree, above others
one_more : (bit : Bool) (above given : ℕ) (bits : List Bool) (before tone : Tone) → bit ≡ same_tone before tone
    → given ≡ 2 * above + cond bit 1 0 → above ≡ number_of bits → given ≡ number_of (same_tone before tone ∷ bits)
one_more bit above given bits before tone agrees is rest =
    is ∙ bit_above bit above bits rest ∙ ap (λ b. number_of (b ∷ bits)) agrees

pub returns : goal.returns
returns c =
    let before = c.args.before in
    let at : ℕ → Tone = λ k. get_or c.args.tones.now k Mark in
    let eight = one_more c.agree-2.result 0 c.with_bit.result [] (at 6) (at 7) c.agree-2.ensures c.with_bit.ensures.value
    refl in
    let seven = one_more c.agree.result c.with_bit.result c.with_bit-last.result (bits_from (at 6) (at 7 ∷ [])) (at 5) (at 6)
    c.agree.ensures c.with_bit-last.ensures.value eight in
    let six = one_more c.agree-4.result c.with_bit-last.result c.with_bit-2.result (bits_from (at 5) (at 6 ∷ at 7 ∷ []))
    (at 4) (at 5) c.agree-4.ensures c.with_bit-2.ensures.value seven in
    let five = one_more c.agree-3.result c.with_bit-2.result c.with_bit-later.result
    (bits_from (at 4) (at 5 ∷ at 6 ∷ at 7 ∷ [])) (at 3) (at 4) c.agree-3.ensures c.with_bit-later.ensures.value six in
    let four = one_more c.agree-6.result c.with_bit-later.result c.with_bit-3.result
    (bits_from (at 3) (at 4 ∷ at 5 ∷ at 6 ∷ at 7 ∷ [])) (at 2) (at 3) c.agree-6.ensures c.with_bit-3.ensures.value five in
    let three = one_more c.agree-5.result c.with_bit-3.result c.with_bit-early.result
    (bits_from (at 2) (at 3 ∷ at 4 ∷ at 5 ∷ at 6 ∷ at 7 ∷ [])) (at 1) (at 2) c.agree-5.ensures
    c.with_bit-early.ensures.value four in
    let two = one_more c.agree-8.result c.with_bit-early.result c.with_bit-4.result
    (bits_from (at 1) (at 2 ∷ at 3 ∷ at 4 ∷ at 5 ∷ at 6 ∷ at 7 ∷ [])) (at 0) (at 1) c.agree-8.ensures
    c.with_bit-4.ensures.value three in
    let one = one_more c.agree-7.result c.with_bit-4.result c.with_bit-5.result
    (bits_from (at 0) (at 1 ∷ at 2 ∷ at 3 ∷ at 4 ∷ at 5 ∷ at 6 ∷ at 7 ∷ [])) before (at 0) c.agree-7.ensures
    c.with_bit-5.ensures.value two in
    octet_is c.with_bit-5.result
    (bits_from before (at 0 ∷ at 1 ∷ at 2 ∷ at 3 ∷ at 4 ∷ at 5 ∷ at 6 ∷ at 7 ∷ [])) refl one
    ∙ ap (bits_from before) (sym (eight_tones c.args.tones.now Mark c.told-tones))
