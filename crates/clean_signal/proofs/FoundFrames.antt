-- Each frame of carried transmissions is found, exactly at its true end, if one frame is: for any count of samples a
-- bit, and whatever it means that samples carry tones and that a frame is found.
use Rattle.clean_signal.proofs.Common.{◌≡◌, ℕ, zero, suc, ◌+◌, ◌*◌, ◌≤◌, ℤ, Bool, List, [], ◌∷◌, ◌++◌, length, ap, sym}
use Rattle.clean_signal.proofs.Common.{subst, ◌∙◌, arith, length-append, append_assoc, AllByRecursion, mul-add}
use Rattle.clean_signal.proofs.Common.{recursion_from_All, Tone, Mark, line, length-line_from, flag, flags, body}
use Rattle.clean_signal.proofs.Common.{IsFrame, frame_bits, Transmission, TrueEnd, IsTransmission, body_of}
use Rattle.clean_signal.proofs.FrameBits.{upto, closed, length-flags, body_shape}
use Rattle.clean_signal.proofs.EndsBySize.{count_by, end_by, ends_by, true_ends_by}

-- for each transmission as many samples as its silence, and then samples that carry its line; any samples follow
abbrev CarriesAllBy : (List Tone → List ℤ → Type 0) → List Transmission → List ℤ → Type 0
CarriesAllBy carries [] x = Unit {0}
CarriesAllBy carries (t ∷ transmissions) x =
    (gap : List ℤ) × (part : List ℤ) × (rest : List ℤ) × (x ≡ gap ++ (part ++ rest)) × (length gap ≡ t.silence)
    × carries (line (body_of t)) part × CarriesAllBy carries transmissions rest

all_append : {X : Type 0} (P : X → Type 0) (xs ys : List X) → AllByRecursion P xs → AllByRecursion P ys
    → AllByRecursion P (xs ++ ys)
all_append P [] ys h k = k
all_append P (x ∷ xs) ys h k = (h.0, all_append P xs ys h.1 k)

-- a frame is found if samples carry it and the flags before and after it
abbrev FindsFrame : ℕ → (List ℤ → TrueEnd → Type 0) → (List Tone → List ℤ → Type 0) → Type 0
FindsFrame size found carries =
    (p part rest : List ℤ) (octets : List ℕ) (mid post : List Bool) → IsFrame octets
    → carries (line (flag ++ (upto mid octets ++ post))) part
    → found (p ++ (part ++ rest)) (record { end = length p + size * length (flag ++ upto mid octets); octets = octets })

module _ (size : ℕ) (found : List ℤ → TrueEnd → Type 0) (carries : List Tone → List ℤ → Type 0)
    (length-of : (tones : List Tone) (part : List ℤ) → carries tones part → length part ≡ size * length tones)
    (one : FindsFrame size found carries) where
  frames_found : (frames : List (List ℕ)) (p part rest : List ℤ) (mid post all : List Bool) (at : ℕ)
      → AllByRecursion IsFrame frames
      → carries (line all) part → all ≡ flag ++ (mid ++ (flag ++ (closed frames ++ post)))
      → at ≡ length p + size * length (flag ++ (mid ++ flag))
      → AllByRecursion (found (p ++ (part ++ rest))) (ends_by size at frames)
  frames_found [] p part rest mid post all at fits carried is begins = tt
  frames_found (octets ∷ frames) p part rest mid post all at fits carried is begins =
      let next : List Bool = mid ++ (flag ++ frame_bits octets) in
      let here : flag ++ (mid ++ (flag ++ (closed (octets ∷ frames) ++ post)))
      ≡ flag ++ (upto mid octets ++ (closed frames ++ post)) = simp append_assoc in
      let later : flag ++ (mid ++ (flag ++ (closed (octets ∷ frames) ++ post)))
      ≡ flag ++ (next ++ (flag ++ (closed frames ++ post))) = simp append_assoc in
      let same : (flag ++ (mid ++ flag)) ++ (frame_bits octets ++ flag) ≡ flag ++ upto mid octets = simp append_assoc in
      let again : flag ++ upto mid octets ≡ flag ++ (next ++ flag) = simp append_assoc in
      let parts = sym (mul-add size (length (flag ++ (mid ++ flag))) (length (frame_bits octets ++ flag)))
      ∙ ap (λ n. size * n)
      (sym (length-append (flag ++ (mid ++ flag)) (frame_bits octets ++ flag)) ∙ ap length same) in
      let end : end_by size at octets ≡ length p + size * length (flag ++ upto mid octets) = omega (arith, parts) in (
        subst (λ n. found (p ++ (part ++ rest)) (record { end = n; octets = octets })) (sym end)
            (one p part rest octets mid (closed frames ++ post) fits.0
            (subst (λ bs. carries (line bs) part) (is ∙ here) carried)),
        frames_found frames p part rest next post all (end_by size at octets) fits.1 carried (is ∙ later)
            (end ∙ ap (λ b. length p + size * length b) again),
      )

  -- each frame of a transmission is found
  transmission_found : (frames : List (List ℕ)) (opening closing : ℕ) (p part rest : List ℤ) (at : ℕ)
      → AllByRecursion IsFrame frames → 2 ≤ opening → 1 ≤ closing
      → carries (line (body frames opening closing)) part → at ≡ length p + (8 * size) * opening
      → AllByRecursion (found (p ++ (part ++ rest))) (ends_by size at frames)
  transmission_found [] opening closing p part rest at fits two some carried begins = tt
  transmission_found (octets ∷ frames) zero closing p part rest at fits two some carried begins = absurd (omega arith)
  transmission_found (octets ∷ frames) (suc zero) closing p part rest at fits two some carried begins =
      absurd (omega arith)
  transmission_found (octets ∷ frames) (suc (suc opening)) zero p part rest at fits two some carried begins =
      absurd (omega arith)
  transmission_found (octets ∷ frames) (suc (suc opening)) (suc closing) p part rest at fits two some carried begins =
      let mid : length (flag ++ (flags opening ++ flag)) ≡ 8 * suc (suc opening) =
      omega (arith, length-append (flags opening) flag, length-flags opening) in
      let flags_of : (8 * size) * suc (suc opening) ≡ size * (8 * suc (suc opening)) = grind arith in
      frames_found (octets ∷ frames) p part rest (flags opening) (flags closing)
      (body (octets ∷ frames) (suc (suc opening)) (suc closing)) at fits carried
      (body_shape octets frames opening closing)
      (begins ∙ ap (λ n. length p + n) (flags_of ∙ ap (λ n. size * n) (sym mid)))

  -- each frame of carried transmissions is found at its true end, whatever stands before them
  pub all_found_by : (transmissions : List Transmission) (p x : List ℤ) (begin : ℕ)
      → AllByRecursion IsTransmission transmissions → CarriesAllBy carries transmissions x
      → begin ≡ length p → AllByRecursion (found (p ++ x)) (true_ends_by size begin transmissions)
  all_found_by [] p x begin fits carried at = tt
  all_found_by (t ∷ transmissions) p x begin fits (gap, part, rest, parts, silence, carried, others) at =
      let good : IsTransmission t = fits.0 in
      let before : List ℤ = p ++ gap in
      let first : ℕ = begin + t.silence + (8 * size) * t.opening in
      let length_before : length before ≡ length p + length gap = length-append p gap in
      let bits : length part ≡ size * length (body_of t) = length-of (line (body_of t)) part carried
      ∙ ap (λ n. size * n) (length-line_from Mark (body_of t)) in
      let after : begin + count_by size t ≡ length (before ++ part) = omega (arith, length-append before part) in
      let here : before ++ (part ++ rest) ≡ p ++ x
      = append_assoc p gap (part ++ rest) ∙ ap (λ y. p ++ y) (sym parts) in
      let there : (before ++ part) ++ rest ≡ p ++ x = append_assoc before part rest ∙ here in
      all_append (found (p ++ x)) (ends_by size first t.frames)
      (true_ends_by size (begin + count_by size t) transmissions)
      (subst (λ y. AllByRecursion (found y) (ends_by size first t.frames)) here
      (transmission_found t.frames t.opening t.closing before part rest first
      (recursion_from_All IsFrame t.frames good.frames) good.opening good.closing carried (omega arith)))
      (subst (λ y. AllByRecursion (found y) (true_ends_by size (begin + count_by size t) transmissions)) there
      (all_found_by transmissions (before ++ part) rest (begin + count_by size t) fits.1 others after))
