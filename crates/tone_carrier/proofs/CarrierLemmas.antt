-- What a carrier keeps of samples that one sample more follows.
use Rattle.std.proofs.Common.{◌≡◌, ℕ, zero, suc, ◌+◌, ◌-◌, ◌*◌, ◌/◌, ◌%◌, ◌<◌, ◌≤◌, inl, inr, ℤ, pos, List, [], ◌∷◌}
use Rattle.std.proofs.Common.{◌++◌, length, drop, set, get_or, get_or-set_same, get_or-set_other, refl, ap, sym, subst}
use Rattle.std.proofs.Common.{◌∙◌, arith, length-append, length-drop, append_assoc}
use Rattle.std.specs.Prelude.{◌↔◌, IsTrue, Bool, true, false}
use Rattle.std.proofs.lemmas.Bool.{cases_eq, cases_lt, true≢false}
use Rattle.std.proofs.lemmas.List.{drop-append-le, drop-drop, take_all, length_push, length-replicate}
use Rattle.std.proofs.Math.Seq.{drop-append-add}
use Rattle.offset_slicers.specs.Windows.{windows_in, window_at}
use Rattle.offset_slicers.specs.Held.{offset_from}
use Rattle.tone_carrier.specs.declared.heard_window.HeardWindow.{HeardWindow}
use Rattle.tone_carrier.specs.HeardWindows.{heard_window}
use Rattle.tone_carrier.specs.Tones.{heard_windows, HasTones, ShowsCarrier}
use Rattle.tone_carrier.specs.Held.{HeldCarrier, HeldLane, LaneStandsFor, StandsFor, silence}
use Rattle.tone_carrier.proofs.WindowLemmas.{heard_windows-push_none, heard_windows-push_one, heard_windows-none}

-- the last eight samples, one sample on
pub recent-push : (x : List ℤ) (sample : ℤ) → drop 1 (drop (length x) (silence ++ x)) ++ sample ∷ []
    ≡ drop (length (x ++ sample ∷ [])) (silence ++ (x ++ sample ∷ []))
recent-push x sample =
    let inside : length x + 1 ≤ length (silence ++ x)
    = omega (arith, length-append silence x, length-replicate 8 (pos 0)) in
    ap (λ xs. xs ++ sample ∷ []) (drop-drop 1 (length x) (silence ++ x))
    ∙ sym (drop-append-le (length x + 1) (silence ++ x) (sample ∷ []) inside)
    ∙ ap (drop (length x + 1)) (append_assoc silence x (sample ∷ []))
    ∙ ap (λ n. drop n (silence ++ (x ++ sample ∷ []))) (sym (length_push x sample))

-- they are the window that ends with the last of them
window_is : (offset : ℕ) (x : List ℤ) (k : ℕ) → length x ≡ 8 + (offset + 8 * k)
    → window_at offset x k ≡ drop (length x) (silence ++ x)
unfolding window_at
window_is offset x k whole =
    let at : ℕ = offset + 8 * k in
    let size : length silence ≡ 8 = length-replicate 8 (pos 0) in
    let past : length x ≡ length silence + at = omega arith in
    take_all 8 (drop at x) (omega (arith, length-drop at x))
    ∙ sym (drop-append-add silence x at)
    ∙ ap (λ n. drop n (silence ++ x)) (sym past)

-- a lane at whose offset no window ends
lane_same : (lane : HeldLane) (offset : ℕ) (x : List ℤ) (sample : ℤ)
    → windows_in offset (length x + 1) ≡ windows_in offset (length x) → LaneStandsFor lane (heard_windows offset x)
    → LaneStandsFor lane (heard_windows offset (x ++ sample ∷ []))
lane_same lane offset x sample none h =
    subst (LaneStandsFor lane) (sym (heard_windows-push_none offset x sample none)) h

-- what is heard at an offset, if a window ends with the last sample
heard_more : (offset : ℕ) (x : List ℤ) (sample : ℤ) (window : HeardWindow) (n : ℕ)
    → n ≡ windows_in offset (length x)
    → length x + 1 ≡ 8 + (offset + 8 * n)
    → window ≡ heard_window (drop (length (x ++ sample ∷ [])) (silence ++ (x ++ sample ∷ [])))
    → heard_windows offset x ++ window ∷ [] ≡ heard_windows offset (x ++ sample ∷ [])
heard_more offset x sample window n count ends is =
    let all : List ℤ = x ++ sample ∷ [] in
    let one : windows_in offset (length x + 1) ≡ windows_in offset (length x) + 1 = omega arith in
    let there : window_at offset all (windows_in offset (length x)) ≡ drop (length all) (silence ++ all)
    = ap (window_at offset all) (sym count) ∙ window_is offset all n (length_push x sample ∙ ends) in
    sym (heard_windows-push_one offset x sample one
    ∙ ap (λ w. heard_windows offset x ++ w ∷ []) (ap heard_window there ∙ sym is))

-- ---- numbers: where windows of an offset end

-- none in the first seven samples
early : (r n : ℕ) → n + 1 < 8 → (n + 1 - r) / 8 ≡ (n - r) / 8
early r n few = omega arith

-- the last of a window is at an offset's place modulo 8
elsewhere : (half begin n : ℕ) → half < 4 → ((begin + n + 1) % 8 ≡ 2 * half → ⊥)
    → (n + 1 - offset_from (2 * half) begin) / 8 ≡ (n - offset_from (2 * half) begin) / 8
elsewhere half begin n small other =
    let r : ℕ = offset_from (2 * half) begin in
    let is : r ≡ (8 + 2 * half - begin % 8) % 8 = refl in
    omega arith

there : (half begin n : ℕ) → half < 4 → (begin + n + 1) % 8 ≡ 2 * half → 8 ≤ n + 1
    → n + 1 ≡ 8 + (offset_from (2 * half) begin + 8 * ((n - offset_from (2 * half) begin) / 8))
there half begin n small at enough =
    let r : ℕ = offset_from (2 * half) begin in
    let is : r ≡ (8 + 2 * half - begin % 8) % 8 = refl in
    omega arith

-- ---- a sample more

abbrev pub held_of : List HeldLane → ℕ → ℕ → List ℤ → HeldCarrier
held_of lanes begin position recent =
    record { lanes = lanes; begin = begin; position = position; recent = recent }

module _ (lanes : List HeldLane) (started position begin : ℕ) (recent next : List ℤ) (x : List ℤ) (sample : ℤ)
    (stood : StandsFor (held_of lanes started position recent) begin x)
    (is_next : next ≡ drop 1 recent ++ sample ∷ []) where
  begins : started ≡ begin
  begins = stood.begins

  count : position ≡ begin + length x
  count = stood.count

  recent_now : next ≡ drop (length (x ++ sample ∷ [])) (silence ++ (x ++ sample ∷ []))
  recent_now = is_next ∙ ap (λ xs. drop 1 xs ++ sample ∷ []) stood.recent ∙ recent-push x sample

  count_now : position + 1 ≡ begin + length (x ++ sample ∷ [])
  count_now = omega (arith, count, length_push x sample)

  -- no window ends
  no_window : ((half : ℕ) → half < 4
      → windows_in (offset_from (2 * half) begin) (length x + 1)
      ≡ windows_in (offset_from (2 * half) begin) (length x))
      → StandsFor (held_of lanes started (position + 1) next) begin (x ++ sample ∷ [])
  no_window none = record {
    begins = begins;
    count = count_now;
    recent = recent_now;
    lanes = λ half d small.
        lane_same (get_or lanes half d) (offset_from (2 * half) begin) x sample (none half small)
        (stood.lanes half d small);
  }

  pub stands_early : position + 1 < started + 8
      → StandsFor (held_of lanes started (position + 1) next) begin (x ++ sample ∷ [])
  stands_early few =
      let a = begins in
      let b = count in
      no_window (λ half small. early (offset_from (2 * half) begin) (length x) (omega arith))

  pub stands_odd : (position + 1) % 2 ≡ 1
      → StandsFor (held_of lanes started (position + 1) next) begin (x ++ sample ∷ [])
  stands_odd odd =
      let a = begins in
      let b = count in
      no_window (λ half small. elsewhere half begin (length x) small (λ at. omega arith))

  -- a window of one lane ends
  pub stands_more : (slot : ℕ) (lane : HeldLane) (window : HeardWindow) → started + 8 ≤ position + 1
      → (position + 1) % 2 ≡ 0 → slot ≡ (position + 1) % 8 / 2 → length lanes ≡ 4
      → window ≡ heard_window next
      → ((windows : List HeardWindow) → ((d : HeldLane) → LaneStandsFor (get_or lanes slot d) windows)
      → LaneStandsFor lane (windows ++ window ∷ []))
      → StandsFor (held_of (set lanes slot lane) started (position + 1) next) begin (x ++ sample ∷ [])
  stands_more slot lane window enough even is four heard takes = record {
    begins = begins;
    count = count_now;
    recent = recent_now;
    lanes = λ half d small.
        let a = begins in
        let b = count in
        let r : ℕ = offset_from (2 * half) begin in
        elim (cases_eq half slot) [
          | inl same ↦ (
              let at : (begin + length x + 1) % 8 ≡ 2 * half = omega arith in
              let ends = there half begin (length x) small at (omega arith) in
              let more = heard_more r x sample window (windows_in r (length x)) refl ends
              (heard ∙ ap heard_window recent_now) in
              let stands : LaneStandsFor lane (heard_windows r x ++ window ∷ [])
              = takes (heard_windows r x) (λ e. subst (λ k. LaneStandsFor (get_or lanes k e) (heard_windows r x)) same
              (stood.lanes half e small)) in
              let set_there : get_or (set lanes slot lane) half d ≡ lane
              = ap (λ k. get_or (set lanes slot lane) k d) same
              ∙ get_or-set_same lanes slot lane d (omega arith) in
              subst (λ l. LaneStandsFor l (heard_windows r (x ++ sample ∷ []))) (sym set_there)
              (subst (LaneStandsFor lane) more stands))
          | inr other ↦ subst (λ l. LaneStandsFor l (heard_windows r (x ++ sample ∷ [])))
              (sym (get_or-set_other lanes slot half lane d other))
              (lane_same (get_or lanes half d) r x sample
              (elsewhere half begin (length x) small (λ at. other (omega arith))) (stood.lanes half d small))
        ];
  }

-- ---- no samples, and whether some lane is busy

pub stands_empty : (lanes : List HeldLane) (begin : ℕ) (recent : List ℤ) → recent ≡ silence
    → ((half : ℕ) (d : HeldLane) → half < 4 → LaneStandsFor (get_or lanes half d) [])
    → StandsFor (held_of lanes begin begin recent) begin []
stands_empty lanes begin recent quiet empty = record {
  begins = refl;
  count = omega arith;
  recent = quiet;
  lanes = λ half d small.
      subst (LaneStandsFor (get_or lanes half d)) (sym (heard_windows-none (offset_from (2 * half) begin)))
      (empty half d small);
}

abbrev pub StandFor : List HeldLane → (ℕ → List HeardWindow) → Type 0
StandFor lanes windows = (k : ℕ) (d : HeldLane) → k < 4 → LaneStandsFor (get_or lanes k d) (windows k)

module _ (lanes : List HeldLane) (index : ℕ) (lane : HeldLane) (busy : Bool) (within : index < 4)
    (is : lane ≡ get_or lanes index lane)
    (tells : (windows : List HeardWindow) → LaneStandsFor lane windows → IsTrue busy ↔ ShowsCarrier windows)
    (windows : ℕ → List HeardWindow) (stand : StandFor lanes windows) where
  lane_tells : IsTrue busy ↔ ShowsCarrier (windows index)
  lane_tells =
      tells (windows index) (subst (λ l. LaneStandsFor l (windows index)) (sym is) (stand index lane within))

  pub busy_there : busy ≡ true → IsTrue true ↔ ((k : ℕ) × (k < 4) × ShowsCarrier (windows k))
  busy_there e = (λ _. (index, within, lane_tells.0 e), λ _. refl)

  pub none_more : busy ≡ false → ((k : ℕ) → k < index → ShowsCarrier (windows k) → ⊥) → (k : ℕ) → k < index + 1
      → ShowsCarrier (windows k) → ⊥
  none_more e before k small shows = elim (cases_lt k index) [
    | inl lt ↦ before k lt shows
    | inr ge ↦ (let last : k ≡ index = omega arith in
        true≢false (sym (lane_tells.1 (subst (λ t. ShowsCarrier (windows t)) last shows)) ∙ e))
  ]

pub none_busy : (windows : ℕ → List HeardWindow) → ((k : ℕ) → k < 4 → ShowsCarrier (windows k) → ⊥)
    → IsTrue false ↔ ((k : ℕ) × (k < 4) × ShowsCarrier (windows k))
none_busy windows none = (λ e. absurd (true≢false (sym e)), λ h. absurd (none h.0 h.1 h.2))

-- samples have tones exactly if the windows of some lane show a carrier
pub busy_is : (busy : Bool) (lanes : List HeldLane) (held : HeldCarrier) (begin : ℕ) (x : List ℤ)
    → held.lanes ≡ lanes → StandsFor held begin x
    → ((windows : ℕ → List HeardWindow) → StandFor lanes windows
    → IsTrue busy ↔ ((k : ℕ) × (k < 4) × ShowsCarrier (windows k)))
    → IsTrue busy ↔ HasTones begin x
busy_is busy lanes held begin x are stood tells =
    let both = tells (λ half. heard_windows (offset_from (2 * half) begin) x)
    (subst (λ ls. StandFor ls (λ half. heard_windows (offset_from (2 * half) begin) x)) are stood.lanes) in (
      λ e. (let some = both.0 e in record { half = some.0; small = some.1; shown = some.2 }),
      λ h. both.1 (h.half, h.small, h.shown),
    )
