-- What one sample more changes of the tones, and of what a slicer keeps.
use Rattle.offset_slicers.proofs.Common.{◌≡◌, ℕ, ◌+◌, ◌-◌, ◌*◌, ◌/◌, ◌%◌, ◌<◌, ◌≤◌, ℤ, List, [], ◌∷◌, ◌++◌, Bool}
use Rattle.offset_slicers.proofs.Common.{length, map, take, drop, set, refl, ap, subst, sym, ◌∙◌, arith, length-drop}
use Rattle.offset_slicers.proofs.Common.{drop-append-le, take_all, length_push, append-nil, range_with_len, Tone, Mark}
use Rattle.offset_slicers.proofs.Common.{bits_of, last_tone, tone_of, windows_in, window_at, tones_at, bits, EndsWindow}
use Rattle.offset_slicers.proofs.Common.{held_of, offset_from, StandsFor}
use Rattle.std.proofs.lemmas.List.{drop_all, take_more_set, length-set}
use Rattle.nrzi_bits.proofs.LineLemmas.{last_tone-push}
use Rattle.offset_slicers.specs.Held.{part_after}
use Rattle.offset_slicers.specs.Windows.{next_window}
use Rattle.offset_slicers.proofs.TonesOfWindows.{tones_of-push_none, tones_of-push_one}

-- a sample that ends no window adds no tone
pub tones_at-push_none : (offset : ℕ) (x : List ℤ) (sample : ℤ)
    → windows_in offset (length x + 1) ≡ windows_in offset (length x)
    → tones_at offset (x ++ sample ∷ []) ≡ tones_at offset x
unfolding tones_at window_at
tones_at-push_none = tones_of-push_none 8 (omega arith) tone_of

-- a sample that ends a window adds the tone of that window
pub tones_at-push_one : (offset : ℕ) (x : List ℤ) (sample : ℤ)
    → windows_in offset (length x + 1) ≡ windows_in offset (length x) + 1
    → tones_at offset (x ++ sample ∷ [])
    ≡ tones_at offset x ++ tone_of (window_at offset (x ++ sample ∷ []) (windows_in offset (length x))) ∷ []
unfolding tones_at window_at
tones_at-push_one = tones_of-push_one 8 (omega arith) tone_of

-- the window that a sample ends
pub window_at-push : (offset : ℕ) (x : List ℤ) (sample : ℤ) (window : List ℤ) → offset ≤ length x
    → (length x - offset) % 8 ≡ 7
    → length window ≡ 8 → take 7 window ≡ part_after offset x
    → window_at offset (x ++ sample ∷ []) (windows_in offset (length x)) ≡ set window 7 sample
unfolding window_at
window_at-push offset x sample window begun last size part =
    let at : ℕ = offset + 8 * windows_in offset (length x) in
    let inside : at ≤ length x = omega arith in
    let short : length (drop at x ++ sample ∷ []) ≤ 8 = omega (arith, length_push (drop at x) sample, length-drop at x)
    in
    let whole : length (set window 7 sample) ≤ 8 = omega (arith, length-set window 7 sample) in
    ap (take 8) (drop-append-le at x (sample ∷ []) inside)
    ∙ take_all 8 (drop at x ++ sample ∷ []) short
    ∙ ap (λ xs. xs ++ sample ∷ []) (sym part)
    ∙ sym (take_more_set window 7 sample (omega arith))
    ∙ take_all 8 (set window 7 sample) whole

-- what is kept of all samples, of so many, if the first window begins after `offset` of them
record Keeps (offset position : ℕ) (window : List ℤ) (before : Tone) (x : List ℤ) : Type 0 where
  count : position ≡ length x
  part : take ((position - offset) % 8) window ≡ part_after offset x
  tone : before ≡ last_tone (tones_at offset x)

-- a sample before the first window
keeps_before : (offset position : ℕ) (window : List ℤ) (before : Tone) (x : List ℤ) (sample : ℤ)
    → Keeps offset position window before x → position < offset
    → Keeps offset (position + 1) window before (x ++ sample ∷ [])
keeps_before offset position window before x sample h early =
    let count : position ≡ length x = h.count in
    let size : length (x ++ sample ∷ []) ≡ length x + 1 = length_push x sample in
    let none : (position + 1 - offset) % 8 ≡ 0 = omega arith in
    let short : length (x ++ sample ∷ []) ≤ offset + 8 * windows_in offset (length (x ++ sample ∷ [])) = omega arith in
    record {
      count = omega arith;
      part = ap (λ n. take n window) none ∙ sym (drop_all _ (x ++ sample ∷ []) short);
      tone = h.tone ∙ ap last_tone (sym (tones_at-push_none offset x sample (omega arith)));
    }

-- a sample within a window
keeps_within : (offset position : ℕ) (window : List ℤ) (before : Tone) (x : List ℤ) (sample : ℤ)
    → Keeps offset position window before x → offset ≤ position → (position - offset) % 8 < 7 → length window ≡ 8
    → Keeps offset (position + 1) (set window ((position - offset) % 8) sample) before (x ++ sample ∷ [])
keeps_within offset position window before x sample h begun within whole =
    let count : position ≡ length x = h.count in
    let size : length (x ++ sample ∷ []) ≡ length x + 1 = length_push x sample in
    let at : ℕ = offset + 8 * windows_in offset (length x) in
    let place : ℕ = (position - offset) % 8 in
    let next : (position + 1 - offset) % 8 ≡ place + 1 = omega arith in
    let same : offset + 8 * windows_in offset (length (x ++ sample ∷ [])) ≡ at = omega arith in
    let inside : at ≤ length x = omega arith in
    record {
      count = omega arith;
      part = ap (λ n. take n (set window place sample)) next
          ∙ take_more_set window place sample (omega arith)
          ∙ ap (λ xs. xs ++ sample ∷ []) h.part
          ∙ sym (drop-append-le at x (sample ∷ []) inside)
          ∙ ap (λ n. drop n (x ++ sample ∷ [])) (sym same);
      tone = h.tone ∙ ap last_tone (sym (tones_at-push_none offset x sample (omega arith)));
    }

-- the tones with the last sample of a window
tones_at-last : (offset position : ℕ) (window : List ℤ) (before : Tone) (x : List ℤ) (sample : ℤ)
    → Keeps offset position window before x → offset ≤ position → (position - offset) % 8 ≡ 7 → length window ≡ 8
    → tones_at offset (x ++ sample ∷ []) ≡ tones_at offset x ++ tone_of (set window 7 sample) ∷ []
tones_at-last offset position window before x sample h begun last whole =
    let count : position ≡ length x = h.count in
    let part : take 7 window ≡ part_after offset x = ap (λ n. take n window) (sym last) ∙ h.part in
    tones_at-push_one offset x sample (omega arith)
    ∙ ap (λ w. tones_at offset x ++ tone_of w ∷ []) (window_at-push offset x sample window (omega arith) (omega arith)
    whole part)

-- the last sample of a window
keeps_last : (offset position : ℕ) (window : List ℤ) (before : Tone) (x : List ℤ) (sample : ℤ)
    → Keeps offset position window before x → offset ≤ position → (position - offset) % 8 ≡ 7 → length window ≡ 8
    → Keeps offset (position + 1) (set window 7 sample) (tone_of (set window 7 sample)) (x ++ sample ∷ [])
keeps_last offset position window before x sample h begun last whole =
    let count : position ≡ length x = h.count in
    let size : length (x ++ sample ∷ []) ≡ length x + 1 = length_push x sample in
    let none : (position + 1 - offset) % 8 ≡ 0 = omega arith in
    let short : length (x ++ sample ∷ []) ≤ offset + 8 * windows_in offset (length (x ++ sample ∷ [])) = omega arith in
    record {
      count = omega arith;
      part = ap (λ n. take n (set window 7 sample)) none ∙ sym (drop_all _ (x ++ sample ∷ []) short);
      tone = sym (last_tone-push (tones_at offset x) (tone_of (set window 7 sample)))
          ∙ ap last_tone (sym (tones_at-last offset position window before x sample h begun last whole));
    }

-- what is kept of a stretch, by its own count of samples
stands_of : (offset first position begin r n : ℕ) (window : List ℤ) (before : Tone) (x : List ℤ)
    → r ≡ offset_from offset begin → position ≡ begin + n → first ≡ begin + r
    → Keeps r n window before x → StandsFor (held_of offset first position window before) begin x
stands_of offset first position begin r n window before x is count begins keeps =
    let following : position - first ≡ n - r = omega arith in
    record {
      count = count ∙ ap (λ m. begin + m) keeps.count;
      first = begins ∙ ap (λ m. begin + m) is;
      part = ap (λ m. take (m % 8) window) following ∙ keeps.part ∙ ap (λ m. part_after m x) is;
      before = keeps.tone ∙ ap (λ m. last_tone (tones_at m x)) is;
    }

-- a stretch without a sample, and a line at mark
pub stands_empty : (offset first begin : ℕ) (window : List ℤ) (before : Tone) → first ≡ begin + offset_from offset begin
    → before ≡ Mark
    → StandsFor (held_of offset first begin window before) begin []
unfolding tones_at
stands_empty offset first begin window before begins at_mark =
    let r : ℕ = offset_from offset begin in
    let none : (begin - first) % 8 ≡ 0 = omega arith in
    let windows : windows_in r 0 ≡ 0 = omega arith in
    record {
      count = omega arith;
      first = begins;
      part = ap (λ n. take n window) none ∙ sym (drop_all _ [] (omega arith));
      before = at_mark ∙ ap (λ n. last_tone (map (λ k. tone_of (window_at r [] k)) (range_with_len 0 n))) (sym windows);
    }

-- a stretch of samples, of which the first window of the offset begins after r samples, and one sample more
module _ (offset first position begin : ℕ) (window : List ℤ) (before : Tone) (x : List ℤ) (sample : ℤ) (r : ℕ)
    (is : r ≡ offset_from offset begin)
    (h : StandsFor (held_of offset first position window before) begin x) where
  begins : first ≡ begin + r
  begins = h.first ∙ ap (λ m. begin + m) (sym is)

  -- how far after the begin of the first window the stretch has come
  following : position - first ≡ length x - r
  following = let count = h.count in let first_at = begins in omega arith

  keeps : Keeps r (length x) window before x
  keeps = record {
    count = refl;
    part = ap (λ m. take (m % 8) window) (sym following) ∙ h.part ∙ ap (λ m. part_after m x) (sym is);
    tone = h.before ∙ ap (λ m. last_tone (tones_at m x)) (sym is);
  }

  further : position + 1 ≡ begin + (length x + 1)
  further = let count = h.count in omega arith

  -- a sample before the first window
  pub stands_before : position < first → StandsFor (held_of offset first (position + 1) window before) begin
      (x ++ sample ∷ [])
  stands_before early =
      let count = h.count in
      let first_at = begins in
      stands_of offset first (position + 1) begin r (length x + 1) window before (x ++ sample ∷ []) is further begins
      (keeps_before r (length x) window before x sample keeps (omega arith))

  -- a sample within a window
  pub stands_within : first ≤ position → (position - first) % 8 < 7 → length window ≡ 8
      → StandsFor (held_of offset first (position + 1) (set window ((position - first) % 8) sample) before) begin
      (x ++ sample ∷ [])
  stands_within late within whole =
      let count = h.count in
      let first_at = begins in
      let place : (length x - r) % 8 < 7 = subst (λ m. m % 8 < 7) following within in
      let P : ℕ → Type 0 = λ m. Keeps r (length x + 1) (set window (m % 8) sample) before (x ++ sample ∷ []) in
      stands_of offset first (position + 1) begin r (length x + 1) (set window ((position - first) % 8) sample) before
      (x ++ sample ∷ []) is further begins
      (subst P (sym following) (keeps_within r (length x) window before x sample keeps (omega arith) place whole))

  module _ (late : first ≤ position) (last : 7 ≤ (position - first) % 8) (whole : length window ≡ 8) (stored : ℤ)
      (after : Tone) (same : stored ≡ sample)
      (tone : after ≡ tone_of (set window ((position - first) % 8) stored)) where
    at_last : (position - first) % 8 ≡ 7
    at_last = omega arith

    place_last : (length x - r) % 8 ≡ 7
    place_last = ap (λ m. m % 8) (sym following) ∙ at_last

    tone_last : tone_of (set window 7 sample) ≡ after
    tone_last = ap (λ z. tone_of (set window 7 z)) (sym same) ∙ ap (λ m. tone_of (set window m stored)) (sym at_last)
        ∙ sym tone

    window_last : set window 7 sample ≡ set window ((position - first) % 8) stored
    window_last = ap (λ z. set window 7 z) (sym same) ∙ ap (λ m. set window m stored) (sym at_last)

    -- the last sample of a window
    pub stands_last : StandsFor (held_of offset first (position + 1) (set window ((position - first) % 8) stored) after)
        begin (x ++ sample ∷ [])
    stands_last =
        let count = h.count in
        let first_at = begins in
        let P : List ℤ → Type 0 = λ w. Keeps r (length x + 1) w after (x ++ sample ∷ []) in
        let Q : Tone → Type 0 = λ t. Keeps r (length x + 1) (set window 7 sample) t (x ++ sample ∷ []) in
        stands_of offset first (position + 1) begin r (length x + 1) (set window ((position - first) % 8) stored) after
        (x ++ sample ∷ []) is further begins
        (subst P window_last (subst Q tone_last (keeps_last r (length x) window before x sample keeps (omega arith)
        place_last whole)))

    -- and its tone
    pub tones_last : tones_at r (x ++ sample ∷ []) ≡ tones_at r x ++ after ∷ []
    tones_last =
        let count = h.count in
        let first_at = begins in
        tones_at-last r (length x) window before x sample keeps (omega arith) place_last whole
        ∙ ap (λ t. tones_at r x ++ t ∷ []) tone_last

    -- and its samples
    pub window_next : set window ((position - first) % 8) stored ≡ next_window r x (x ++ sample ∷ [])
    window_next =
        let count = h.count in
        let first_at = begins in
        let part : take 7 window ≡ part_after r x = ap (λ n. take n window) (sym place_last) ∙ keeps.part in
        sym (window_at-push r x sample window (omega arith) place_last whole part ∙ window_last)

  -- no window ends before the first one begins, and none within a window
  pub early_windows : position < first → windows_in r (length x + 1) ≡ windows_in r (length x)
  early_windows early = let count = h.count in let first_at = begins in omega arith

  pub same_windows : first ≤ position → (position - first) % 8 < 7
      → windows_in r (length x + 1) ≡ windows_in r (length x)
  same_windows late within =
      let count = h.count in
      let first_at = begins in
      let place : (length x - r) % 8 < 7 = subst (λ m. m % 8 < 7) following within in
      omega arith

  -- the window that ends is one more
  pub window_ends : first ≤ position → 7 ≤ (position - first) % 8 → EndsWindow r (x ++ sample ∷ [])
  window_ends late last =
      let count = h.count in
      let first_at = begins in
      let size : length (x ++ sample ∷ []) ≡ length x + 1 = length_push x sample in
      let place : 7 ≤ (length x - r) % 8 = subst (λ m. 7 ≤ m % 8) following last in
      ((length x - r) / 8, omega arith)

  pub no_window : windows_in r (length x + 1) ≡ windows_in r (length x) → ¬ EndsWindow r (x ++ sample ∷ [])
  no_window same ends = let size : length (x ++ sample ∷ []) ≡ length x + 1 = length_push x sample in let at = ends.1 in
      omega arith

-- a sample that ends no window adds no bit
pub bits-push_none : (offset : ℕ) (x : List ℤ) (sample : ℤ)
    → windows_in offset (length x + 1) ≡ windows_in offset (length x)
    → bits offset (x ++ sample ∷ []) ≡ bits offset x ++ []
unfolding bits
bits-push_none offset x sample none = ap bits_of (tones_at-push_none offset x sample none)
    ∙ sym (append-nil (bits_of (tones_at offset x)))

-- a sample that ends a window adds the bit of its tone
pub bits-push_one : (offset : ℕ) (x : List ℤ) (sample : ℤ) (tone : Tone) (bit : Bool)
    → tones_at offset (x ++ sample ∷ []) ≡ tones_at offset x ++ tone ∷ []
    → bits_of (tones_at offset x ++ tone ∷ []) ≡ bits_of (tones_at offset x) ++ bit ∷ []
    → bits offset (x ++ sample ∷ []) ≡ bits offset x ++ bit ∷ []
unfolding bits
bits-push_one offset x sample tone bit tones more = ap bits_of tones ∙ more
