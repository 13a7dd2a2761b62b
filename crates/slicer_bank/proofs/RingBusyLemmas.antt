-- Which of eight lanes that read a ring hear a station.
use Rattle.slicer_bank.proofs.Common.{◌≡◌, ℕ, ◌<◌, List, [], ◌∷◌, ap, sym, ◌∙◌, arith, subst, length, get_or-map}
use Rattle.slicer_bank.proofs.Common.{length-map, RingLane, IsBusyOnRing, lane_of, answers_of, readers_of, answers_by}
use Rattle.slicer_bank.proofs.Common.{LaneListens, LanesListen, Stretch, last_stretch, StretchStandsFor}
use Rattle.std.specs.Prelude.{slice_index_or}
use Rattle.slicer_bank.specs.declared.detection.Detection.{Detection}
use Rattle.slicer_bank.specs.Detection.{HearsStation}
use Rattle.slicer_bank.specs.StretchLanes.{ListensAs}

-- a lane that listens as it is asked to hears a station in whatever stretch it stands for
abbrev pub Hears : Detection → RingLane → Type 0
Hears detection lane = (s : Stretch) → StretchStandsFor lane.lane s → ListensAs detection lane.lane
    → HearsStation detection lane.lane.offset s

abbrev pub HearsNone : Detection → RingLane → Type 0
HearsNone detection lane = (s : Stretch) → StretchStandsFor lane.lane s → ListensAs detection lane.lane
    → ¬ HearsStation detection lane.lane.offset s

-- the first lanes hear none
abbrev pub NoneBusy : Detection → List RingLane → ℕ → Type 0
NoneBusy detection lanes count = (k : ℕ) (d : RingLane) → k < count → HearsNone detection (slice_index_or lanes k d)

answers_at : (len : ℕ) (lanes : List RingLane) (k : ℕ) (d : RingLane) → k < length lanes
    → lane_of (answers_by len lanes) k ≡ answers_of len (slice_index_or lanes k d).reader
answers_at len lanes k d l =
    get_or-map (answers_of len) (readers_of lanes) k d.reader [] (let n = length-map lanes (λ lane. lane.reader) in
    omega arith)
    ∙ ap (answers_of len) (get_or-map (λ lane. lane.reader) lanes k d d.reader l)

module _ (detection : Detection) (lanes : List RingLane) (eight : length lanes ≡ 8) (len : ℕ)
    (h : LanesListen len detection lanes) where
  pub some_busy : (k : ℕ) (d : RingLane) → k < length lanes → Hears detection (slice_index_or lanes k d)
      → IsBusyOnRing detection (answers_by len lanes)
  some_busy k d l hears =
      let within : k < 8 = omega arith in
      let lane : RingLane = slice_index_or lanes k d in
      let mine : LaneListens len detection k lane = h k d within in
      record {
        lane = k;
        within = within;
        hears = subst (λ a. HearsStation detection k (last_stretch a)) (sym (answers_at len lanes k d l))
            (subst (λ o. HearsStation detection o (last_stretch (answers_of len lane.reader))) mine.place
            (hears (last_stretch (answers_of len lane.reader)) mine.stands mine.asked));
      }

  pub none_busy : (d : RingLane) → NoneBusy detection lanes (length lanes)
      → IsBusyOnRing detection (answers_by len lanes) → ⊥
  none_busy d none busy =
      let within = busy.within in
      let l : busy.lane < length lanes = omega arith in
      let lane : RingLane = slice_index_or lanes busy.lane d in
      let mine : LaneListens len detection busy.lane lane = h busy.lane d within in
      none busy.lane d l (last_stretch (answers_of len lane.reader)) mine.stands mine.asked
      (subst (λ o. HearsStation detection o (last_stretch (answers_of len lane.reader))) (sym mine.place)
      (subst (λ a. HearsStation detection busy.lane (last_stretch a)) (answers_at len lanes busy.lane d l) busy.hears))

some_lane : (xs : List RingLane) → 0 < length xs → RingLane
some_lane [] l = absurd (omega arith)
some_lane (x ∷ xs) l = x

pub none_of_eight : (detection : Detection) (lanes : List RingLane) → length lanes ≡ 8
    → NoneBusy detection lanes (length lanes) → (len : ℕ) → LanesListen len detection lanes
    → IsBusyOnRing detection (answers_by len lanes) → ⊥
none_of_eight detection lanes eight none len h =
    none_busy detection lanes eight len h (some_lane lanes (omega arith)) none
