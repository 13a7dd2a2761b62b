-- The lanes of a run that meet no gap have each read the first samples of the published list, and after its end all of them.
use Rattle.std.proofs.Common.{◌≡◌, ℕ, zero, suc, ◌+◌, ◌<◌, ◌≤◌, List, [], ◌∷◌, ◌++◌, length, refl, ap, sym, subst, ◌∙◌}
use Rattle.std.proofs.Common.{arith, get_or, inl, inr, take}
use Rattle.std.specs.Prelude.{ℤ, Bool, true}
use Rattle.std.proofs.lemmas.Bool.{cases_lt}
use Rattle.std.proofs.lemmas.List.{get_or-map, get_or-take, get_or_append_left, get_or_past, length-append, length-map}
use Rattle.std.proofs.lemmas.List.{length-take}
use Rattle.sample_ring.specs.declared.got.Got.{Got}
use Rattle.sample_ring.specs.declared.got.Got.TheVariants.{Item, Gap, Empty, End}
use Rattle.sample_ring.specs.declared.view.Track.{Track}
use Rattle.sample_ring.specs.Record.{StandsIn}
use Rattle.slicer_bank.specs.HeardOnRing.{lane_of}
use Rattle.slicer_bank.specs.RingTurns.{MeetsEnd, gaps_from, gaps_of}
use Rattle.slicer_bank.specs.Stretches.{position_after}
use Rattle.ring_receiver.specs.Readers.{readers_wanted}
use Rattle.tnc_ports.specs.Sampled.{HaveEnded}
use Rattle.tnc_ports.specs.ServeRun.{LanesStandIn, answers_of_record, ring_cells}
use Rattle.hearing_laws.specs.HearingLaw.{HaveNoGap, lanes_among}
use Rattle.hearing_laws.proofs.LaneLemmas.{HaveRead}
use Rattle.hearing_laws.proofs.NoGap.{HasRead, ReadsOn, position_read, record_reads}

-- ---- no gap

neither : {X : Type 0} (xs ys : List X) → xs ++ ys ≡ [] → (xs ≡ []) × (ys ≡ [])
neither [] ys none = (refl, none)
neither (x ∷ xs) ys none = absurd (cc none)

-- whichever lane they are told of
no_gap_of : (lane other : ℕ) (answers : List Got) → gaps_of lane answers ≡ [] → gaps_of other answers ≡ []
no_gap_of lane other [] none = refl
no_gap_of lane other (Item at sample ∷ answers) none = no_gap_of lane other answers none
no_gap_of lane other (Gap from to ∷ answers) none = absurd (cc none)
no_gap_of lane other (Empty at ∷ answers) none = no_gap_of lane other answers none
no_gap_of lane other (End total ∷ answers) none = no_gap_of lane other answers none

no_gap_in : (first : ℕ) (lanes : List (List Got)) (lane : ℕ) → gaps_from first lanes ≡ [] → lane < length lanes
    → gaps_of 0 (lane_of lanes lane) ≡ []
no_gap_in first [] lane none within = absurd (omega arith)
no_gap_in first (answers ∷ lanes) zero none within =
    no_gap_of first 0 answers (neither (gaps_of first answers) (gaps_from (first + 1) lanes) none).0
no_gap_in first (answers ∷ lanes) (suc lane) none within =
    no_gap_in (first + 1) lanes lane (neither (gaps_of first answers) (gaps_from (first + 1) lanes) none).1
    (omega arith)

-- a reader of a lane was answered none
no_gap_among : (sensitive : Bool) (answers : List (List Got)) (lane : ℕ) → HaveNoGap sensitive answers
    → lane < readers_wanted sensitive → lane < length answers → gaps_of 0 (lane_of answers lane) ≡ []
no_gap_among sensitive answers lane none wanted within =
    let size = length-take (readers_wanted sensitive) answers in
    let first : lane_of (lanes_among sensitive answers) lane ≡ lane_of answers lane =
    get_or-take (readers_wanted sensitive) answers lane [] wanted in
    ap (gaps_of 0) (sym first) ∙ no_gap_in 0 (lanes_among sensitive answers) lane none (omega arith)

-- ---- what one reader has read

no_track : Track
no_track = record { at = 0; reads = [] }

-- each reader's answers are those of a record
module _ (published : List ℤ) (answers : List (List Got)) (stand : LanesStandIn published answers) where
  track_of : ℕ → Track
  track_of reader = get_or stand.records reader no_track

  recorded : (reader : ℕ) → reader < length answers → reader < length stand.records
  recorded reader within =
      let size : length answers ≡ length stand.records =
      ap length stand.answers ∙ length-map stand.records answers_of_record in
      omega arith

  answers_are : (reader : ℕ) → reader < length answers → lane_of answers reader ≡ answers_of_record (track_of reader)
  unfolding track_of
  answers_are reader within =
      ap (λ all. lane_of all reader) stand.answers
      ∙ get_or-map answers_of_record stand.records reader no_track [] (recorded reader within)

  stands : (reader : ℕ) → reader < length answers → StandsIn ring_cells published true (track_of reader)
  unfolding track_of
  stands reader within = stand.stand reader no_track (recorded reader within)

  one_reads : (reader : ℕ) → reader < length answers → gaps_of 0 (lane_of answers reader) ≡ []
      → HasRead published (lane_of answers reader)
  one_reads reader within no_gap =
      let stands_so = stands reader within in
      let none : gaps_of 0 (answers_of_record (track_of reader)) ≡ [] =
      ap (gaps_of 0) (sym (answers_are reader within)) ∙ no_gap in
      record {
        place = (track_of reader).at;
        within = stands_so.within;
        reads = subst (λ got. ReadsOn published 0 got (track_of reader).at) (sym (answers_are reader within))
            (record_reads ring_cells 0 (track_of reader).at published (track_of reader).reads stands_so.stands
            stands_so.tiles none);
      }

  -- past the end of the ring it has read all
  one_ends : (reader : ℕ) → reader < length answers → gaps_of 0 (lane_of answers reader) ≡ []
      → MeetsEnd (lane_of answers reader) → position_after (lane_of answers reader) ≡ length published
  unfolding track_of one_reads
  one_ends reader within no_gap met =
      position_read published (lane_of answers reader) (one_reads reader within no_gap)
      ∙ stand.whole reader no_track (recorded reader within) (subst MeetsEnd (answers_are reader within) met)

-- ---- the lanes among the readers

module _ (published : List ℤ) (answers lanes : List (List Got)) (sound : List Got) (is : lanes ++ sound ∷ [] ≡ answers)
    (stand : LanesStandIn published answers) where
  there : (lane : ℕ) → lane < length lanes → lane < length answers
  there lane within =
      let size : length answers ≡ length lanes + 1 = ap length (sym is) ∙ length-append lanes (sound ∷ []) in
      omega arith

  same : (lane : ℕ) → lane < length lanes → lane_of answers lane ≡ lane_of lanes lane
  same lane within = ap (λ all. lane_of all lane) (sym is) ∙ get_or_append_left lanes (sound ∷ []) [] lane within

  -- a reader that is not there has read nothing
  nothing_read : (lane : ℕ) → length lanes ≤ lane → HasRead published (lane_of lanes lane)
  nothing_read lane past =
      subst (HasRead published) (sym (get_or_past lanes lane [] past))
      (record { place = 0; within = omega arith; reads = refl })

  pub lanes_read : (sensitive : Bool) → HaveNoGap sensitive answers → HaveRead sensitive published lanes
  lanes_read sensitive no_gap lane wanted = elim (cases_lt lane (length lanes)) [
    | inl within ↦ subst (HasRead published) (same lane within)
        (one_reads published answers stand lane (there lane within)
        (no_gap_among sensitive answers lane no_gap wanted (there lane within)))
    | inr past ↦ nothing_read lane past
  ]

  pub lanes_end : (sensitive : Bool) → HaveNoGap sensitive answers → HaveEnded lanes → (lane : ℕ)
      → lane < readers_wanted sensitive → lane < length lanes → position_after (lane_of lanes lane) ≡ length published
  lanes_end sensitive no_gap ended lane wanted within =
      ap position_after (sym (same lane within))
      ∙ one_ends published answers stand lane (there lane within)
      (no_gap_among sensitive answers lane no_gap wanted (there lane within))
      (subst MeetsEnd (sym (same lane within)) (ended lane [] within))
