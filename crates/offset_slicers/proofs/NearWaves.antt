-- Samples near a wave are heard as the wave is: window by window they are near pure ones.
use Rattle.offset_slicers.proofs.Common.{◌≡◌, ℕ, ◌+◌, ◌-◌, ◌*◌, ◌/◌, ◌<◌, ◌≤◌, ℤ, pos, List, [], ◌∷◌, ◌++◌, length, map}
use Rattle.offset_slicers.proofs.Common.{take, drop, get_or, subst, refl, ap, sym, ◌∙◌, arith, length-append}
use Rattle.offset_slicers.proofs.Common.{length-drop, range_with_len, take_all, Tone, next_phase, pure_window}
use Rattle.offset_slicers.proofs.Common.{wave_from, tone_of, window_at, tones_at, distance, IsNear}
use Rattle.std.proofs.lemmas.List.{get_or_append_left, get_or-append_right, get_or-take, get_or-drop, length-take-le}
use Rattle.std.proofs.lemmas.List.{take-append-drop}
use Rattle.offset_slicers.proofs.NearWindows.{tone_of-near}
use Rattle.offset_slicers.proofs.WaveLemmas.{length-pure_window, next_phase-sixth}
use Rattle.offset_slicers.proofs.WindowLemmas.{tones_at-aligned}

module _ (level : ℕ) (v w x : List ℤ) (n : ℕ) (first : length v ≡ n) (near : IsNear level (v ++ w) x) where
  size_of : length x ≡ n + length w
  size_of = omega (arith, near.size, length-append v w)

  -- samples near two waves, one after the other: the first of them are near the first wave
  pub near-front : IsNear level v (take n x)
  near-front = record {
    size = length-take-le n x (omega (arith, size_of)) ∙ sym first;
    close = λ i below.
        let at : get_or (v ++ w) i (pos 0) ≡ get_or v i (pos 0) = get_or_append_left v w (pos 0) i below in
        let there : get_or (take n x) i (pos 0) ≡ get_or x i (pos 0) = get_or-take n x i (pos 0) (omega arith) in
        let close = near.close i (omega (arith, length-append v w)) in
        let same : distance level (get_or (v ++ w) i (pos 0)) (get_or x i (pos 0))
        ≡ distance level (get_or v i (pos 0)) (get_or (take n x) i (pos 0))
        = (λ j. distance level (at j) (sym there j)) in
        omega arith;
  }

  -- and the others the second
  pub near-back : IsNear level w (drop n x)
  near-back = record {
    size = omega (arith, length-drop n x, size_of);
    close = λ i below.
        let back : (n + i) - n ≡ i = omega arith in
        let at : get_or (v ++ w) (n + i) (pos 0) ≡ get_or w i (pos 0)
        = get_or-append_right v w n (n + i) (pos 0) first (omega arith) ∙ ap (λ k. get_or w k (pos 0)) back in
        let there : get_or (drop n x) i (pos 0) ≡ get_or x (n + i) (pos 0) = get_or-drop n x i (pos 0) in
        let close = near.close (n + i) (omega (arith, length-append v w)) in
        let same : distance level (get_or (v ++ w) (n + i) (pos 0)) (get_or x (n + i) (pos 0))
        ≡ distance level (get_or w i (pos 0)) (get_or (drop n x) i (pos 0))
        = (λ j. distance level (at j) (sym there j)) in
        omega arith;
  }

-- a window near a pure one has its tone alone
tones_at-window : (level k : ℕ) (tone : Tone) (x : List ℤ) → 1 ≤ level → k < 6
    → IsNear level (pure_window (8 * k) tone) x → tones_at 0 x ≡ tone ∷ []
unfolding tones_at window_at
tones_at-window level k tone x some below near =
    let whole : length x ≡ 8 = near.size ∙ length-pure_window (8 * k) tone in
    let one : (length x - 0) / 8 ≡ 1 = omega arith in
    ap (λ n. map (λ j. tone_of (window_at 0 x j)) (range_with_len 0 n)) one
    ∙ ap (λ w. tone_of w ∷ []) (take_all 8 x (omega arith))
    ∙ ap (λ t. t ∷ []) (tone_of-near level k tone x some below near)

no_tones : (x : List ℤ) → length x ≡ 0 → tones_at 0 x ≡ []
unfolding tones_at
no_tones [] none = refl
no_tones (z ∷ x) none = absurd (omega arith)

-- the tones of samples near a wave are those that made it
pub tones_at-near : (level : ℕ) (tones : List Tone) (k : ℕ) (x : List ℤ) → 1 ≤ level → k < 6
    → IsNear level (wave_from (8 * k) tones) x → tones_at 0 x ≡ tones
tones_at-near level [] k x some below near = no_tones x near.size
tones_at-near level (tone ∷ tones) k x some below near =
    let next = next_phase-sixth k tone below in
    let front = near-front level (pure_window (8 * k) tone) (wave_from (next_phase (8 * k) tone) tones) x 8
    (length-pure_window (8 * k) tone) near in
    let back = near-back level (pure_window (8 * k) tone) (wave_from (next_phase (8 * k) tone) tones) x 8
    (length-pure_window (8 * k) tone) near in
    let rest : tones_at 0 (drop 8 x) ≡ tones
    = tones_at-near level tones next.0 (drop 8 x) some next.1
    (subst (λ phase. IsNear level (wave_from phase tones) (drop 8 x)) next.2 back) in
    ap (tones_at 0) (sym (take-append-drop 8 x))
    ∙ tones_at-aligned 0 1 (take 8 x) (drop 8 x) (front.size ∙ length-pure_window (8 * k) tone)
    ∙ (λ i. tones_at-window level k tone (take 8 x) some below front i ++ rest i)
