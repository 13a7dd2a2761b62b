-- The bits of a lane, with one end more.
use Rattle.sensitive_blocks.proofs.Common.{◌≡◌, ℕ, zero, suc, ◌+◌, ◌-◌, ◌<◌, ◌≤◌, Bool, true, false, ℤ, List, [], ◌∷◌}
use Rattle.sensitive_blocks.proofs.Common.{◌++◌, length, map, filter, range_with_len, refl, ap, sym, ◌∙◌, arith, inl, inr}
use Rattle.sensitive_blocks.proofs.Common.{append-nil, filter-append, map-append, length-map, if◌then◌else◌, nat_lt, nat_le}
use Rattle.sensitive_blocks.proofs.Common.{cases_lt, lt-ltb, le-ltb, ltb-true, leb-true, eqb-true, ◌&&◌, ◌==◌, ◌%◌}
use Rattle.sensitive_blocks.proofs.Common.{Tone, ends, lane_tones, lane_bits, reads, reads_place, reads_window}
use Rattle.sensitive_blocks.proofs.Common.{tone_for, place_for, added_places, delay_of, is_read_at, lane_certainties, window_to}
use Rattle.fx25_receiver.specs.Certainty.{certainty}
use Rattle.std.proofs.lemmas.Bool.{and_parts}
use Rattle.nrzi_bits.specs.Line.{bits_from}
use Rattle.tone_table.specs.declared.tone.Tone.TheVariants.{Mark}

pub range-more : (a n : ℕ) → range_with_len a (suc n) ≡ range_with_len a n ++ (a + n) ∷ []
range-more a zero = ap (λ k. k ∷ []) (let e : a ≡ a + 0 = omega arith in e)
range-more a (suc n) =
    ap (λ ks. a ∷ ks) (range-more (a + 1) n)
    ∙ ap (λ k. a ∷ (range_with_len (a + 1) n ++ k ∷ [])) (let e : a + 1 + n ≡ a + suc n = omega arith in e)

-- the numbers that pass a test, with one more
passed-more : (p : ℕ → Bool) (n : ℕ) (b : Bool) → p n ≡ b
    → filter p (range_with_len 0 (n + 1)) ≡ filter p (range_with_len 0 n) ++ (if b then n ∷ [] else [])
passed-more p n b is =
    let more : n + 1 ≡ suc n = omega arith in
    let at : 0 + n ≡ n = omega arith in
    ap (λ k. filter p (range_with_len 0 k)) more
    ∙ ap (filter p) (range-more 0 n ∙ ap (λ k. range_with_len 0 n ++ k ∷ []) at)
    ∙ filter-append p (range_with_len 0 n) (n ∷ [])
    ∙ ap (λ t. filter p (range_with_len 0 n) ++ (if t then n ∷ [] else [])) is

-- if the lane reads there
pub ends-read : (x : List ℤ) (lane end : ℕ) → reads x lane end ≡ true → ends x lane (end + 1) ≡ ends x lane end ++ end ∷ []
unfolding ends
ends-read x lane end is = passed-more (reads x lane) end true is

pub tones-read : (x : List ℤ) (lane end : ℕ) → reads x lane end ≡ true
    → lane_tones x lane (end + 1) ≡ lane_tones x lane end ++ tone_for x lane end ∷ []
unfolding lane_tones
tones-read x lane end is =
    ap (map (tone_for x lane)) (ends-read x lane end is) ∙ map-append (tone_for x lane) (ends x lane end) (end ∷ [])

pub certainties-read : (x : List ℤ) (lane end : ℕ) → reads x lane end ≡ true
    → lane_certainties x lane (end + 1) ≡ lane_certainties x lane end ++ certainty (window_to x end) ∷ []
unfolding lane_certainties
certainties-read x lane end is =
    let sure : ℕ → ℕ = λ e. certainty (window_to x e) in
    ap (map sure) (ends-read x lane end is) ∙ map-append sure (ends x lane end) (end ∷ [])

-- if it does not
pub ends-not : (x : List ℤ) (lane end : ℕ) → reads x lane end ≡ false → ends x lane (end + 1) ≡ ends x lane end
unfolding ends
ends-not x lane end is = passed-more (reads x lane) end false is ∙ append-nil (filter (reads x lane) (range_with_len 0 end))

pub tones-not : (x : List ℤ) (lane end : ℕ) → reads x lane end ≡ false → lane_tones x lane (end + 1) ≡ lane_tones x lane end
unfolding lane_tones
tones-not x lane end is = ap (map (tone_for x lane)) (ends-not x lane end is)

pub certainties-not : (x : List ℤ) (lane end : ℕ) → reads x lane end ≡ false
    → lane_certainties x lane (end + 1) ≡ lane_certainties x lane end
unfolding lane_certainties
certainties-not x lane end is = ap (map (λ e. certainty (window_to x e))) (ends-not x lane end is)

-- below 0 there is none
pub ends-none : (x : List ℤ) (lane : ℕ) → ends x lane 0 ≡ []
unfolding ends
ends-none x lane = refl

pub tones-none : (x : List ℤ) (lane : ℕ) → lane_tones x lane 0 ≡ []
unfolding lane_tones
tones-none x lane = ap (map (tone_for x lane)) (ends-none x lane)

pub certainties-none : (x : List ℤ) (lane : ℕ) → lane_certainties x lane 0 ≡ []
unfolding lane_certainties
certainties-none x lane = ap (map (λ e. certainty (window_to x e))) (ends-none x lane)

-- a lane has as many tones as ends
pub as_many : (x : List ℤ) (lane count : ℕ) → length (lane_tones x lane count) ≡ length (ends x lane count)
unfolding lane_tones
as_many x lane count = length-map (ends x lane count) (tone_for x lane)

-- and as many bits
length-bits_from : (before : Tone) (tones : List Tone) → length (bits_from before tones) ≡ length tones
length-bits_from before [] = refl
length-bits_from before (tone ∷ tones) = omega (arith, length-bits_from tone tones)

pub length-lane_bits : (x : List ℤ) (lane count : ℕ) → length (lane_bits x lane count) ≡ length (ends x lane count)
length-lane_bits x lane count = length-bits_from Mark (lane_tones x lane count) ∙ as_many x lane count

-- no lane reads more than two places before the last
pub delay_bound : (lane : ℕ) → lane < 26 → delay_of lane ≤ 2
delay_bound lane small = elim (cases_lt lane 16) [
  | inl a ↦ at_most 0 (ap (λ b. if b then 0 else (if nat_lt lane 19 then lane - 16
      else if nat_lt lane 22 then lane - 19 else if nat_lt lane 23 then 1 else lane - 23)) (lt-ltb lane 16 a)) (omega arith)
  | inr a ↦ elim (cases_lt lane 19) [
    | inl b ↦ at_most (lane - 16) (first a ∙ ap (λ t. if t then lane - 16
        else (if nat_lt lane 22 then lane - 19 else if nat_lt lane 23 then 1 else lane - 23)) (lt-ltb lane 19 b)) (omega arith)
    | inr b ↦ elim (cases_lt lane 22) [
      | inl c ↦ at_most (lane - 19) (first a ∙ second b ∙ ap (λ t. if t then lane - 19
          else (if nat_lt lane 23 then 1 else lane - 23)) (lt-ltb lane 22 c)) (omega arith)
      | inr c ↦ elim (cases_lt lane 23) [
        | inl d ↦ at_most 1 (first a ∙ second b ∙ third c ∙ ap (λ t. if t then 1 else lane - 23) (lt-ltb lane 23 d)) (omega arith)
        | inr d ↦ at_most (lane - 23) (first a ∙ second b ∙ third c ∙ ap (λ t. if t then 1 else lane - 23) (le-ltb lane 23 d))
            (omega arith)
      ]
    ]
  ]
]
  where
    at_most : (n : ℕ) → delay_of lane ≡ n → n ≤ 2 → delay_of lane ≤ 2
    at_most n is few = omega arith

    first : 16 ≤ lane → delay_of lane ≡ (if nat_lt lane 19 then lane - 16
        else if nat_lt lane 22 then lane - 19 else if nat_lt lane 23 then 1 else lane - 23)
    first a = ap (λ b. if b then 0 else (if nat_lt lane 19 then lane - 16
        else if nat_lt lane 22 then lane - 19 else if nat_lt lane 23 then 1 else lane - 23)) (le-ltb lane 16 a)

    second : 19 ≤ lane → (if nat_lt lane 19 then lane - 16
        else if nat_lt lane 22 then lane - 19 else if nat_lt lane 23 then 1 else lane - 23)
        ≡ (if nat_lt lane 22 then lane - 19 else if nat_lt lane 23 then 1 else lane - 23)
    second a = ap (λ b. if b then lane - 16
        else (if nat_lt lane 22 then lane - 19 else if nat_lt lane 23 then 1 else lane - 23)) (le-ltb lane 19 a)

    third : 22 ≤ lane → (if nat_lt lane 22 then lane - 19 else if nat_lt lane 23 then 1 else lane - 23)
        ≡ (if nat_lt lane 23 then 1 else lane - 23)
    third a = ap (λ b. if b then lane - 19 else (if nat_lt lane 23 then 1 else lane - 23)) (le-ltb lane 22 a)

-- ---- what reading says

-- which case of lanes it is
pub reads-window : (x : List ℤ) (lane end : ℕ) → lane < 8 → reads x lane end ≡ reads_window x lane end
unfolding reads
reads-window x lane end small = ap (λ b. if b then reads_window x lane end else reads_place x lane end) (lt-ltb lane 8 small)

pub reads-place : (x : List ℤ) (lane end : ℕ) → 8 ≤ lane → reads x lane end ≡ reads_place x lane end
unfolding reads
reads-place x lane end added = ap (λ b. if b then reads_window x lane end else reads_place x lane end) (le-ltb lane 8 added)

-- where a window is read
pub record AtWindow (x : List ℤ) (lane end : ℕ) : Type 0 where
  pub least : 8 ≤ end
  pub within : end ≤ length x
  pub lane_is : lane ≡ end % 8

pub window_read : (x : List ℤ) (lane end : ℕ) → lane < 8 → reads x lane end ≡ true → AtWindow x lane end
window_read x lane end small is =
    let parts = and_parts (nat_le 8 end && nat_le end (length x)) (end % 8 == lane) (sym (reads-window x lane end small) ∙ is) in
    let sizes = and_parts (nat_le 8 end) (nat_le end (length x)) parts.0 in
    let same = eqb-true (end % 8) lane parts.1 in
    record {
      least = leb-true 8 end sizes.0;
      within = leb-true end (length x) sizes.1;
      lane_is = sym same;
    }

-- where a place is
pub record AtPlace (x : List ℤ) (lane end : ℕ) : Type 0 where
  pub least : 8 ≤ end + delay_of lane
  pub decided : place_for lane end < added_places (length x)
  pub read : is_read_at x lane (place_for lane end) ≡ true

pub place_read : (x : List ℤ) (lane end : ℕ) → 8 ≤ lane → reads x lane end ≡ true → AtPlace x lane end
place_read x lane end added is =
    let parts = and_parts (nat_le 8 (end + delay_of lane) && nat_lt (place_for lane end) (added_places (length x)))
    (is_read_at x lane (place_for lane end)) (sym (reads-place x lane end added) ∙ is) in
    let sizes = and_parts (nat_le 8 (end + delay_of lane)) (nat_lt (place_for lane end) (added_places (length x))) parts.0 in
    record {
      least = leb-true 8 (end + delay_of lane) sizes.0;
      decided = ltb-true (place_for lane end) (added_places (length x)) sizes.1;
      read = parts.1;
    }

-- a bit that is read ends within the samples
pub read_within : (x : List ℤ) (lane end : ℕ) → lane < 26 → reads x lane end ≡ true → end ≤ length x
read_within x lane end small is = elim (cases_lt lane 8) [
  | inl window ↦ (window_read x lane end window is).within
  | inr added ↦
      let at = place_read x lane end added is in
      let decided = at.decided in
      omega arith
]
