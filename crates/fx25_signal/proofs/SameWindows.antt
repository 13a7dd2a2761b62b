-- Two lists of samples that agree where a unit is, and in the bit before it, give it the same bits.
use Rattle.fx25_signal.proofs.Common.{◌≡◌, ℕ, zero, suc, ◌+◌, ◌-◌, ◌*◌, ◌/◌, ◌%◌, ◌<◌, ◌≤◌, ℤ, List, [], ◌∷◌, ◌++◌}
use Rattle.fx25_signal.proofs.Common.{length, take, drop, refl, ap, sym, ◌∙◌, arith}
use Rattle.std.proofs.lemmas.List.{drop_at, length-drop, length-take-le, take-append-drop, take_at}
use Rattle.std.proofs.Math.Seq.{take-add}
use Rattle.tone_table.specs.declared.tone.Tone.{Tone}
use Rattle.tone_table.specs.declared.tone.Tone.TheVariants.{Mark}
use Rattle.nrzi_bits.specs.Line.{bits_from, last_from, last_tone}
use Rattle.nrzi_bits.proofs.LineLemmas.{bits_from-take, last_from-append}
use Rattle.offset_slicers.specs.Windows.{bits, tones_at}
use Rattle.offset_slicers.proofs.WindowLemmas.{bits-aligned, length-bits, length-tones_at, tones_at-aligned}

-- the bits of a lane from a sample on: as many as the windows of the samples from there on
part_bits : (begin n : ℕ) (x : List ℤ) → begin + 8 * n ≤ length x
    → take n (drop (begin / 8) (bits (begin % 8) x))
    ≡ bits_from (last_tone (tones_at (begin % 8) (take begin x))) (tones_at 0 (take (8 * n) (drop begin x)))
part_bits begin n x enough =
    let lane : ℕ = begin % 8 in
    let q : ℕ = begin / 8 in
    let p : List ℤ = take begin x in
    let rest : List ℤ = drop begin x in
    let part : List ℤ = take (8 * n) rest in
    let before : length p ≡ begin = length-take-le begin x (omega arith) in
    let long : length part ≡ 8 * n = length-take-le (8 * n) rest (omega (arith, length-drop begin x)) in
    let whole : length p ≡ lane + 8 * q = omega arith in
    let all : length part ≡ 0 + 8 * n = omega arith in
    let last : Tone = last_tone (tones_at lane p) in
    let count : length (bits lane p) ≡ q = length-bits lane p ∙ omega arith in
    let tones : length (tones_at 0 part) ≡ n = length-tones_at 0 part ∙ omega arith in
    let heard : bits lane x ≡ bits lane p ++ bits_from last (tones_at 0 rest) =
    ap (bits lane) (sym (take-append-drop begin x)) ∙ bits-aligned lane q p rest whole in
    ap (λ b. take n (drop q b)) heard
    ∙ ap (take n) (drop_at (bits lane p) (bits_from last (tones_at 0 rest)) q count)
    ∙ sym (bits_from-take n last (tones_at 0 rest))
    ∙ ap (λ y. bits_from last (take n (tones_at 0 y))) (sym (take-append-drop (8 * n) rest))
    ∙ ap (λ ts. bits_from last (take n ts)) (tones_at-aligned 0 n part (drop (8 * n) rest) all)
    ∙ ap (bits_from last) (take_at (tones_at 0 part) (tones_at 0 (drop (8 * n) rest)) n tones)

-- the tone after some is the last of those that follow, whatever came before
last_of_some : (a b : Tone) (tones : List Tone) → 0 < length tones → last_from a tones ≡ last_from b tones
last_of_some a b [] some = absurd (omega arith)
last_of_some a b (tone ∷ tones) some = refl

no_tones : (tones : List Tone) → length tones ≡ 0 → last_tone tones ≡ Mark
no_tones [] none = refl
no_tones (tone ∷ tones) none = absurd (omega arith)

-- the tone of the last window before a sample
last_window : (begin : ℕ) (x y : List ℤ) → begin ≤ length x → begin ≤ length y
    → take (begin - (begin - 8)) (drop (begin - 8) x) ≡ take (begin - (begin - 8)) (drop (begin - 8) y)
    → last_tone (tones_at (begin % 8) (take begin x)) ≡ last_tone (tones_at (begin % 8) (take begin y))
last_window begin x y in_x in_y same = by_place (begin / 8) refl
  where
    lane : ℕ
    lane = begin % 8

    at_window : (z : List ℤ) → begin ≤ length z → 8 ≤ begin
        → last_tone (tones_at (begin % 8) (take begin z))
        ≡ last_from (last_tone (tones_at (begin % 8) (take (begin - 8) z)))
        (tones_at 0 (take (begin - (begin - 8)) (drop (begin - 8) z)))
    at_window z enough some =
        let w : List ℤ = take (begin - (begin - 8)) (drop (begin - 8) z) in
        let p : List ℤ = take (begin - 8) z in
        let size : length p ≡ begin - 8 = length-take-le (begin - 8) z (omega arith) in
        let whole : length p ≡ begin % 8 + 8 * (begin / 8 - 1) = omega arith in
        let sum : begin ≡ (begin - 8) + (begin - (begin - 8)) = omega arith in
        let split : take begin z ≡ p ++ w =
        ap (λ n. take n z) sum ∙ take-add (begin - 8) (begin - (begin - 8)) z in
        ap (λ s. last_tone (tones_at (begin % 8) s)) split
        ∙ ap last_tone (tones_at-aligned (begin % 8) (begin / 8 - 1) p w whole)
        ∙ last_from-append Mark (tones_at (begin % 8) p) (tones_at 0 w)

    no_window : (z : List ℤ) → begin ≤ length z → begin / 8 ≡ 0
        → last_tone (tones_at (begin % 8) (take begin z)) ≡ Mark
    no_window z enough none =
        let size : length (take begin z) ≡ begin = length-take-le begin z enough in
        no_tones (tones_at (begin % 8) (take begin z))
        (length-tones_at (begin % 8) (take begin z) ∙ omega arith)

    by_place : (q : ℕ) → begin / 8 ≡ q
        → last_tone (tones_at (begin % 8) (take begin x)) ≡ last_tone (tones_at (begin % 8) (take begin y))
    by_place zero none = no_window x in_x none ∙ sym (no_window y in_y none)
    by_place (suc q) at =
        let some : 8 ≤ begin = omega arith in
        let w : List ℤ = take (begin - (begin - 8)) (drop (begin - 8) x) in
        let size : length w ≡ begin - (begin - 8) =
        length-take-le (begin - (begin - 8)) (drop (begin - 8) x) (omega (arith, length-drop (begin - 8) x)) in
        let one : 0 < length (tones_at 0 w) = omega (arith, length-tones_at 0 w) in
        at_window x in_x some
        ∙ last_of_some (last_tone (tones_at (begin % 8) (take (begin - 8) x)))
        (last_tone (tones_at (begin % 8) (take (begin - 8) y))) (tones_at 0 w) one
        ∙ ap (λ s. last_from (last_tone (tones_at (begin % 8) (take (begin - 8) y))) (tones_at 0 s)) same
        ∙ sym (at_window y in_y some)

-- so the bits are the same
pub same_bits_at : (begin n : ℕ) (x y : List ℤ) → begin + 8 * n ≤ length x → begin + 8 * n ≤ length y
    → take (begin - (begin - 8)) (drop (begin - 8) x) ≡ take (begin - (begin - 8)) (drop (begin - 8) y)
    → take (8 * n) (drop begin x) ≡ take (8 * n) (drop begin y)
    → take n (drop (begin / 8) (bits (begin % 8) x)) ≡ take n (drop (begin / 8) (bits (begin % 8) y))
same_bits_at begin n x y in_x in_y before there =
    part_bits begin n x in_x
    ∙ ap (λ t. bits_from t (tones_at 0 (take (8 * n) (drop begin x))))
    (last_window begin x y (omega arith) (omega arith) before)
    ∙ ap (λ s. bits_from (last_tone (tones_at (begin % 8) (take begin y))) (tones_at 0 s)) there
    ∙ sym (part_bits begin n y in_y)
