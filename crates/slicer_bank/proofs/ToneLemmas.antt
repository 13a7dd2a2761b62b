-- What is heard in the windows of a stretch that one sample more follows, and which lanes hear tones.
use Rattle.slicer_bank.proofs.Common.{◌≡◌, ℕ, ◌+◌, ◌*◌, ◌/◌, ◌%◌, ◌<◌, ℤ, List, [], ◌∷◌, ◌++◌, Bool, true, ap}
use Rattle.slicer_bank.proofs.Common.{sym, subst, ◌∙◌, arith, length, length_push, cases_lt, inl, inr, EndsWindow}
use Rattle.slicer_bank.proofs.Common.{windows_in, offset_from, Got, Stretch, last_stretch, with_sample, lane_of}
use Rattle.slicer_bank.proofs.Common.{IsBusyOnRing, HoldsCarrier, stretch_bits}
use Rattle.std.proofs.Common.{◌↔◌, IsTrue}
use Rattle.std.proofs.lemmas.Bool.{eqb-true, eq-eqb}
use Rattle.std.specs.Prelude.{◌==◌, Option}
unfoldable use Rattle.offset_slicers.specs.Windows.{window_at}
use Rattle.offset_slicers.specs.Windows.{next_window}
use Rattle.tone_carrier.specs.HeardWindows.{heard_window}
use Rattle.tone_carrier.specs.Held.{HeldLane as HeldCarrierLane}
use Rattle.tone_carrier.specs.Tones.{HasTones, ShowsCarrier}
use Rattle.tone_carrier.proofs.WindowLemmas.{heard_windows-push_none, heard_windows-push_one, heard_windows-none}
use Rattle.slicer_bank.specs.declared.detection.Detection.{Detection}
use Rattle.slicer_bank.specs.declared.detection.Detection.TheVariants.{Flags, Tones}
use Rattle.slicer_bank.specs.Detection.{HearsStation, flags_of, listens_for_tones, stretch_windows}
use Rattle.slicer_bank.specs.StretchLanes.{TonesStandFor}
use Rattle.slicer_bank.specs.Stretches.{stretch_at}

-- a sample that ends no window leaves their number, and one that does makes it one more
same_number : (offset : ℕ) (x : List ℤ) (sample : ℤ) → ¬ EndsWindow offset (x ++ sample ∷ [])
    → windows_in offset (length x + 1) ≡ windows_in offset (length x)
same_number offset x sample none =
    let size = length_push x sample in
    elim (cases_lt (windows_in offset (length x)) (windows_in offset (length x + 1))) [
      | inl more ↦ absurd (none (windows_in offset (length x), omega arith))
      | inr no_more ↦ omega arith
    ]

one_more : (offset : ℕ) (x : List ℤ) (sample : ℤ) → EndsWindow offset (x ++ sample ∷ [])
    → windows_in offset (length x + 1) ≡ windows_in offset (length x) + 1
one_more offset x sample ends =
    let size = length_push x sample in
    let at = ends.1 in
    omega arith

-- in no samples nothing is heard
pub no_windows : (offset begin : ℕ) → stretch_windows offset (stretch_at begin) ≡ []
no_windows offset begin = heard_windows-none (offset_from offset begin)

module _ (tones : Option HeldCarrierLane) (offset : ℕ) (s : Stretch) (sample : ℤ) where
  -- a sample that ends no window
  pub tones_stay : ¬ EndsWindow (offset_from offset s.begin) (s.samples ++ sample ∷ [])
      → TonesStandFor tones (stretch_windows offset s)
      → TonesStandFor tones (stretch_windows offset (with_sample s sample))
  tones_stay none stands =
      let r : ℕ = offset_from offset s.begin in
      subst (TonesStandFor tones)
      (sym (heard_windows-push_none r s.samples sample (same_number r s.samples sample none))) stands

  -- a sample that ends one
  pub tones_more : (window : List ℤ) → EndsWindow (offset_from offset s.begin) (s.samples ++ sample ∷ [])
      → window ≡ next_window (offset_from offset s.begin) s.samples (s.samples ++ sample ∷ [])
      → TonesStandFor tones (stretch_windows offset s ++ heard_window window ∷ [])
      → TonesStandFor tones (stretch_windows offset (with_sample s sample))
  tones_more window ends is stands =
      let r : ℕ = offset_from offset s.begin in
      subst (TonesStandFor tones)
      (ap (λ w. stretch_windows offset s ++ heard_window w ∷ []) is
      ∙ sym (heard_windows-push_one r s.samples sample (one_more r s.samples sample ends))) stands

-- a lane listens exactly if its offset is even
pub even_told : (offset : ℕ) (listens : Bool) (Shows : Type 0) (busy : Bool) → listens ≡ (offset % 2 == 0)
    → IsTrue busy ↔ ((listens ≡ true) × Shows) → IsTrue busy ↔ ((offset % 2 ≡ 0) × Shows)
even_told offset listens Shows busy is told = (
  λ t. let both = told.0 t in (eqb-true (offset % 2) 0 (sym is ∙ both.0), both.1),
  λ both. told.1 (is ∙ eq-eqb (offset % 2) 0 both.0, both.1),
)

no_tones : (count : ℕ) → Tones ≡ Flags count → ⊥
no_tones count is = cc is

-- what a lane hears, by what its deframer or its windows tell
pub by_flags : (detection : Detection) (count : ℕ) → detection ≡ Flags count
    → (flags offset : ℕ) (s : Stretch) (busy : Bool) → flags ≡ flags_of detection
    → IsTrue busy ↔ HoldsCarrier flags (stretch_bits offset s) → IsTrue busy ↔ HearsStation detection offset s
by_flags (Flags many) count is flags offset s busy asked told =
    subst (λ (n : ℕ). IsTrue busy ↔ HoldsCarrier n (stretch_bits offset s)) asked told
by_flags Tones count is flags offset s busy asked told = absurd (no_tones count is)

pub by_tones : (detection : Detection) → detection ≡ Tones
    → (listens : Bool) (offset : ℕ) (s : Stretch) (busy : Bool) → listens ≡ listens_for_tones detection offset
    → IsTrue busy ↔ ((listens ≡ true) × ShowsCarrier (stretch_windows offset s))
    → IsTrue busy ↔ HearsStation detection offset s
by_tones Tones is listens offset s busy asked told =
    even_told offset listens (ShowsCarrier (stretch_windows offset s)) busy asked told
by_tones (Flags count) is listens offset s busy asked told = absurd (no_tones count (sym is))

-- lanes that have all heard one stretch
module _ (lanes : List (List Got)) (s : Stretch)
    (all : (lane : ℕ) → lane < 8 → last_stretch (lane_of lanes lane) ≡ s) where
  pub tones_of_stretch : IsBusyOnRing Tones lanes → HasTones s.begin s.samples
  tones_of_stretch busy =
      let within = busy.within in
      let even = busy.hears.0 in
      let twice : busy.lane ≡ 2 * (busy.lane / 2) = omega arith in
      record {
        half = busy.lane / 2;
        small = omega arith;
        shown = subst (λ (t : Stretch). ShowsCarrier (stretch_windows (2 * (busy.lane / 2)) t))
            (all busy.lane within)
            (subst (λ k. ShowsCarrier (stretch_windows k (last_stretch (lane_of lanes busy.lane)))) twice
            busy.hears.1);
      }

  pub busy_by_stretch : HasTones s.begin s.samples → IsBusyOnRing Tones lanes
  busy_by_stretch has =
      let small = has.small in
      let within : 2 * has.half < 8 = omega arith in
      record {
        lane = 2 * has.half;
        within = within;
        hears = (
          omega arith,
          subst (λ (t : Stretch). ShowsCarrier (stretch_windows (2 * has.half) t)) (sym (all (2 * has.half) within))
              has.shown,
        );
      }

-- the window that a slicer gives, as a stretch tells it
pub next_told : (offset sliced : ℕ) (slices : sliced ≡ offset) (x z : ℤ) (stored : z ≡ x) (s : Stretch)
    (window : List ℤ)
    → window ≡ next_window (offset_from sliced s.begin) s.samples (s.samples ++ z ∷ [])
    → window ≡ next_window (offset_from offset s.begin) s.samples (s.samples ++ x ∷ [])
next_told offset sliced slices x z stored s window is =
    is ∙ ap (λ y. next_window (offset_from sliced s.begin) s.samples (s.samples ++ y ∷ [])) stored
    ∙ ap (λ o. next_window (offset_from o s.begin) s.samples (s.samples ++ x ∷ [])) slices
