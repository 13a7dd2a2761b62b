-- The bits of a lane are those of the same lane where no blocks are read.
use Rattle.sensitive_blocks.proofs.Common.{◌≡◌, ℕ, zero, suc, ◌+◌, ◌-◌, ◌*◌, ◌%◌, ◌<◌, ◌≤◌, Bool, true, false, ℤ, List, []}
use Rattle.sensitive_blocks.proofs.Common.{◌∷◌, ◌++◌, length, map, take, drop, refl, ap, sym, ◌∙◌, arith, inl, inr, add-one, ◌⊎◌, ◌≢◌}
use Rattle.sensitive_blocks.proofs.Common.{cases_lt, cases_eq, map-append, length-map, range_with_len, ◌==◌, ◌&&◌, nat_le, nat_lt}
use Rattle.sensitive_blocks.proofs.Common.{Tone, added_places, bits_of, delay_of, is_read_at, lane_bits, lane_tones, place_for}
use Rattle.sensitive_blocks.proofs.Common.{reads, tone_for, tone_read, if◌then◌else◌, lt-ltb, le-ltb, lt-leb}
use Rattle.sensitive_blocks.proofs.Common.{le-leb}
use Rattle.std.proofs.lemmas.Bool.{eq-eqb, ne_eqb}
use Rattle.std.proofs.Math.Bool.{and-false}
use Rattle.std.proofs.lemmas.List.{take-append-le, take_all}
use Rattle.std.proofs.lemmas.List.FromFn.{length-range_with_len}
use Rattle.nrzi_bits.proofs.LineLemmas.{bits_from-take}
use Rattle.tone_table.specs.declared.tone.Tone.TheVariants.{Mark}
use Rattle.offset_slicers.specs.Decision.{tone_of}
use Rattle.offset_slicers.specs.Windows.{windows_in}
unfoldable use Rattle.offset_slicers.specs.Windows.{bits, tones_at, window_at}
unfoldable use Rattle.sensitive_receiver.specs.Lanes.{lane_tones as place_tones}
use Rattle.sensitive_receiver.proofs.LaneLemmas.{lane_tones-not as place_tones-not, lane_tones-read as place_tones-read}
use Rattle.sensitive_receiver.proofs.VisitedLanes.{tones_of_none}
use Rattle.sensitive_blocks.proofs.BitLemmas.{delay_bound, range-more, reads-place, reads-window, tones-none, tones-not, tones-read}

-- ---- the eight lanes

-- the first of what is made of numbers
take-mapped : {A : Type 0} (f : ℕ → A) (n k : ℕ) → k ≤ n → take k (map f (range_with_len 0 n)) ≡ map f (range_with_len 0 k)
take-mapped f zero zero le = refl
take-mapped f zero (suc k) le = absurd (omega arith)
take-mapped f (suc n) k le = elim (cases_eq k (suc n)) [
  | inl all ↦ ap (λ m. take m (map f (range_with_len 0 (suc n)))) all
      ∙ take_all (suc n) (map f (range_with_len 0 (suc n)))
      (omega (arith, length-map (range_with_len 0 (suc n)) f, length-range_with_len 0 (suc n)))
      ∙ ap (λ m. map f (range_with_len 0 m)) (sym all)
  | inr less ↦
      ap (λ r. take k (map f r)) (range-more 0 n)
      ∙ ap (take k) (map-append f (range_with_len 0 n) ((0 + n) ∷ []))
      ∙ take-append-le k (map f (range_with_len 0 n)) (f (0 + n) ∷ [])
      (omega (arith, length-map (range_with_len 0 n) f, length-range_with_len 0 n))
      ∙ take-mapped f n k (omega arith)
]

module _ (x : List ℤ) (lane : ℕ) (small : lane < 8) where
  -- away from the last sample of a window nothing is read
  silent : (end : ℕ) → (end < 8) ⊎ (end % 8 ≢ lane) → reads x lane end ≡ false
  silent end (inl early) =
      reads-window x lane end small
      ∙ ap (λ b. (b && nat_le end (length x)) && (end % 8 == lane)) (lt-leb 8 end early)
  silent end (inr other) =
      reads-window x lane end small
      ∙ ap (λ b. (nat_le 8 end && nat_le end (length x)) && b) (ne_eqb (end % 8) lane other)
      ∙ and-false (nat_le 8 end && nat_le end (length x))

  pub window_end : (k : ℕ) → lane + 8 * (k + 1) ≤ length x → reads x lane (lane + 8 * (k + 1)) ≡ true
  window_end k within =
      let end : ℕ = lane + 8 * (k + 1) in
      reads-window x lane end small
      ∙ ap (λ b. (b && nat_le end (length x)) && (end % 8 == lane)) (le-leb 8 end (omega arith))
      ∙ ap (λ b. b && (end % 8 == lane)) (le-leb end (length x) within)
      ∙ eq-eqb (end % 8) lane (omega arith)

  -- a few samples further on, short of the next window's last
  few_on : (from count : ℕ) → ((j : ℕ) → j < count → (from + j < 8) ⊎ ((from + j) % 8 ≢ lane))
      → lane_tones x lane (from + count) ≡ lane_tones x lane from
  few_on from zero none = ap (lane_tones x lane) (let e : from + 0 ≡ from = omega arith in e)
  few_on from (suc count) none =
      ap (lane_tones x lane) (let e : from + suc count ≡ from + count + 1 = omega arith in e)
      ∙ tones-not x lane (from + count) (silent (from + count) (none count (omega arith)))
      ∙ few_on from count (λ j l. none j (omega arith))

  tone_is : (k : ℕ) → tone_for x lane (lane + 8 * (k + 1)) ≡ tone_of (window_at lane x (0 + k))
  unfolding tone_for window_at
  tone_is k =
      ap (λ b. if b then tone_of (take 8 (drop (lane + 8 * (k + 1) - 8) x))
      else tone_read x lane (place_for lane (lane + 8 * (k + 1)))) (lt-ltb lane 8 small)
      ∙ ap (λ n. tone_of (take 8 (drop n x))) (let e : lane + 8 * (k + 1) - 8 ≡ lane + 8 * (0 + k) = omega arith in e)

  -- the tones up to a window are those of the windows up to it
  window_tones : (k : ℕ) → lane + 8 * k ≤ length x
      → lane_tones x lane (lane + 8 * k + 1) ≡ map (λ j. tone_of (window_at lane x j)) (range_with_len 0 k)
  window_tones zero within =
      ap (lane_tones x lane) (let e : lane + 8 * 0 + 1 ≡ 0 + (lane + 1) = omega arith in e)
      ∙ few_on 0 (lane + 1) (λ j l. inl (omega arith)) ∙ tones-none x lane
  window_tones (suc k) within =
      let end : ℕ = lane + 8 * (k + 1) in
      let last : lane + 8 * suc k + 1 ≡ end + 1 = omega arith in
      let before : end ≡ lane + 8 * k + 1 + 7 = omega arith in
      ap (lane_tones x lane) last
      ∙ tones-read x lane end (window_end k (omega arith))
      ∙ ap (λ t. t ++ tone_for x lane end ∷ [])
      (ap (lane_tones x lane) before
      ∙ few_on (lane + 8 * k + 1) 7 (λ j l. inr (λ same. absurd (omega arith)))
      ∙ window_tones k (omega arith))
      ∙ ap (λ t. map (λ j. tone_of (window_at lane x j)) (range_with_len 0 k) ++ t ∷ []) (tone_is k)
      ∙ sym (ap (map (λ j. tone_of (window_at lane x j))) (range-more 0 k)
      ∙ map-append (λ j. tone_of (window_at lane x j)) (range_with_len 0 k) ((0 + k) ∷ []))

  -- so the bits up to a window are the first of the bits
  pub window_bits : (index : ℕ) → index < windows_in lane (length x)
      → lane_bits x lane (lane + 8 * (index + 1) + 1) ≡ take (index + 1) (bits lane x)
  unfolding bits tones_at
  window_bits index within =
      let tone : ℕ → Tone = λ j. tone_of (window_at lane x j) in
      ap bits_of (window_tones (index + 1) (omega arith)
      ∙ sym (take-mapped tone (windows_in lane (length x)) (index + 1) (omega arith)))
      ∙ bits_from-take (index + 1) Mark (map tone (range_with_len 0 (windows_in lane (length x))))

-- ---- the added lanes

module _ (x : List ℤ) (lane : ℕ) (added : 8 ≤ lane) (small : lane < 26) where
  early_end : (end : ℕ) → end + delay_of lane < 8 → reads x lane end ≡ false
  early_end end early =
      reads-place x lane end added
      ∙ ap (λ b. (b && nat_lt (place_for lane end) (added_places (length x))) && is_read_at x lane (place_for lane end))
      (lt-leb 8 (end + delay_of lane) early)

  pub decided_end : (end : ℕ) → 8 ≤ end + delay_of lane → place_for lane end < added_places (length x)
      → reads x lane end ≡ is_read_at x lane (place_for lane end)
  decided_end end least decided =
      reads-place x lane end added
      ∙ ap (λ b. (b && nat_lt (place_for lane end) (added_places (length x))) && is_read_at x lane (place_for lane end))
      (le-leb 8 (end + delay_of lane) least)
      ∙ ap (λ b. b && is_read_at x lane (place_for lane end)) (lt-ltb (place_for lane end) (added_places (length x)) decided)

  added_tone : (end : ℕ) → tone_for x lane end ≡ tone_read x lane (place_for lane end)
  unfolding tone_for
  added_tone end =
      ap (λ b. if b then tone_of (take 8 (drop (end - 8) x)) else tone_read x lane (place_for lane end)) (le-ltb lane 8 added)

  one_place : (end : ℕ) (b : Bool) → is_read_at x lane (place_for lane end) ≡ b
      → reads x lane end ≡ is_read_at x lane (place_for lane end)
      → lane_tones x lane end ≡ place_tones x lane (place_for lane end)
      → lane_tones x lane (end + 1) ≡ place_tones x lane (place_for lane end + 1)
  one_place end true is same before =
      tones-read x lane end (same ∙ is)
      ∙ (λ i. before i ++ added_tone end i ∷ [])
      ∙ sym (place_tones-read x lane (place_for lane end) is)
  one_place end false is same before =
      tones-not x lane end (same ∙ is) ∙ before ∙ sym (place_tones-not x lane (place_for lane end) is)

  -- the tones up to an end are those up to its place
  pub added_tones : (count : ℕ) → place_for lane count ≤ added_places (length x)
      → lane_tones x lane count ≡ place_tones x lane (place_for lane count)
  added_tones zero within =
      let few = delay_bound lane small in
      tones-none x lane ∙ sym (tones_of_none x lane)
      ∙ ap (place_tones x lane) (let e : 0 ≡ place_for lane 0 = omega arith in e)
  added_tones (suc count) within = elim (cases_lt (count + delay_of lane) 8) [
    | inl early ↦
        ap (lane_tones x lane) (sym (add-one count)) ∙ tones-not x lane count (early_end count early)
        ∙ added_tones count (omega arith)
        ∙ ap (place_tones x lane) (let e : place_for lane count ≡ place_for lane (suc count) = omega arith in e)
    | inr least ↦
        ap (lane_tones x lane) (sym (add-one count))
        ∙ one_place count (is_read_at x lane (place_for lane count)) refl (decided_end count least (omega arith))
        (added_tones count (omega arith))
        ∙ ap (place_tones x lane) (let e : place_for lane count + 1 ≡ place_for lane (suc count) = omega arith in e)
  ]
