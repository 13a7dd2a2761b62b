-- What one sample more makes of what a receiver keeps.
use Rattle.fx25_receiver.proofs.Common.{◌≡◌, ℕ, zero, suc, refl, ◌+◌, ◌%◌, ◌<◌, ◌≤◌, ℤ, List, [], ◌∷◌, ◌++◌, length, get_or, take, drop}
use Rattle.fx25_receiver.proofs.Common.{ap, sym, ◌∙◌}
use Rattle.fx25_receiver.proofs.Common.{subst, arith, length_push, bits, bits_of, tones_at, last_seven, HasTakenBelow}
use Rattle.fx25_receiver.proofs.Common.{Heard, HeldLane}
use Rattle.fx25_receiver.proofs.Common.{certainties, LaneHasTaken}
use Rattle.fx25_receiver.specs.Certainty.{certainty}
use Rattle.fx25_receiver.proofs.AheadLemmas.{LaneKnows}
use Rattle.fx25_receiver.proofs.Common.{IsAt, IsHeard, LaneStandsFor, Place, Tone, Bool, true, false, false≢true}
use Rattle.fx25_receiver.proofs.Common.{if◌then◌else◌}
use Rattle.fx25_receiver.proofs.HeardLemmas.{end_within, heard_more, same_lane}
use Rattle.std.proofs.Common.{set}
use Rattle.std.proofs.lemmas.List.{drop_all, drop_more, take-append-drop}
use Rattle.offset_slicers.specs.Decision.{tone_of}
use Rattle.fx25_receiver.specs.Ahead.{AreAhead}
use Rattle.fx25_receiver.proofs.LaneLemmas.{bits_on, lanes_early, lanes_on, lanes_skip, numbers_on, tones_on, window_there}
use Rattle.fx25_receiver.proofs.TakenLemmas.{taken_all, taken_early, taken_no_more, taken_start}

-- the last of eight samples
pub last_of : (window : List ℤ) (d : ℤ) → length window ≡ 8 → drop 7 window ≡ get_or window 7 d ∷ []
last_of window d size =
    drop_more window 7 d (omega arith) ∙ ap (λ xs. get_or window 7 d ∷ xs) (drop_all 8 window (omega arith))

-- eight samples are the first seven and the last
pub window_of : (window seven : List ℤ) (d : ℤ) → length window ≡ 8 → seven ≡ take 7 window
    → window ≡ seven ++ get_or window 7 d ∷ []
window_of window seven d size is =
    sym (take-append-drop 7 window) ∙ ap (λ xs. xs ++ drop 7 window) (sym is)
    ∙ ap (λ xs. seven ++ xs) (last_of window d size)

-- whether a lane waits, whatever is said of lanes that there are not
pub waits_as : (waiting : List Bool) (offset : ℕ) (d : Bool) → offset < length waiting
    → get_or waiting offset true ≡ get_or waiting offset d
waits_as [] offset d within = absurd (omega arith)
waits_as (waits ∷ waiting) zero d within = refl
waits_as (waits ∷ waiting) (suc offset) d within = waits_as waiting offset d (omega arith)

module _ (lanes : List HeldLane) (position : ℕ) (kept : List Heard) (waiting : List Bool) (x : List ℤ) (sample : ℤ)
    (more : List ℤ) (given : List Heard)
    (after : AreAhead lanes position kept waiting x ((x ++ sample ∷ []) ++ more) given) where
  abbrev all : List ℤ
  all = x ++ sample ∷ []

  abbrev whole : List ℤ
  whole = all ++ more

  -- what is heard past one sample more is heard past those before it
  still_quiet : (item : Heard) → IsHeard whole item → length all < item.end → get_or waiting item.lane true ≡ true
  still_quiet item h past = let size = length_push x sample in after.quiet item h (omega arith)

  -- before the eighth sample nothing is heard
  pub early_step : position + 1 < 8 → AreAhead lanes (position + 1) kept waiting all whole given
  early_step few =
      let count = after.count in
      record {
        count = omega (arith, length_push x sample);
        lanes_stand = lanes_early lanes waiting x whole sample (omega arith) after.lanes_stand;
        quiet = still_quiet;
        has_heard = taken_early kept given x sample (omega arith) after.has_heard;
      }

  -- from then on a window of one lane ends: if it is ahead, nothing is heard
  pub ahead_step : (place : ℕ) → 8 ≤ position + 1 → place ≡ (position + 1) % 8 → get_or waiting place true ≡ false
      → AreAhead lanes (position + 1) kept waiting all whole given
  ahead_step place enough is ahead =
      let count = after.count in
      let there : place ≡ (length x + 1) % 8 = is ∙ ap (λ n. (n + 1) % 8) count in
      let at : IsAt (record { offset = place; end = position + 1 }) all = record {
        offset = omega arith;
        window = window_there x sample place there (omega arith);
        end_is = omega (arith, length_push x sample);
      } in
      record {
        count = omega (arith, length_push x sample);
        lanes_stand = lanes_skip lanes waiting x whole sample place there (omega arith) ahead after.lanes_stand;
        quiet = still_quiet;
        has_heard = taken_no_more kept given x (sample ∷ []) after.has_heard
            (λ item h past.
            let within = end_within all item h in
            let size = length_push x sample in
            let lane = same_lane (record { offset = place; end = position + 1 }) all at item h (omega arith) in
            false≢true (sym ahead ∙ ap (λ o. get_or waiting o true) (sym lane)
            ∙ after.quiet item (heard_more all more item h) past));
      }

  -- and if it waits, it takes its tone
  pub later_step : (place : Place) (tone : Tone) (number : ℕ) (d now : HeldLane) (now_kept now_given : List Heard) → 8 ≤ position + 1
      → place.offset ≡ (position + 1) % 8 → place.end ≡ position + 1 → length lanes ≡ 8
      → get_or waiting place.offset true ≡ true
      → tone ≡ tone_of (last_seven x ++ sample ∷ [])
      → number ≡ certainty (last_seven x ++ sample ∷ [])
      → ((tones : List Tone) → LaneStandsFor (get_or lanes place.offset d) tones → LaneStandsFor now
      (tones ++ tone ∷ []))
      → ((numbers : List ℕ) → LaneKnows (get_or lanes place.offset d) numbers → LaneKnows now (numbers ++ number ∷ []))
      → (IsAt place all → LaneStandsFor (get_or lanes place.offset d) (tones_at place.offset x)
      → LaneHasTaken now place.offset all
      → bits_of (tones_at place.offset x ++ tone ∷ []) ≡ bits place.offset all
      → HasTakenBelow 0 kept all given → HasTakenBelow 12 now_kept all now_given)
      → AreAhead (set lanes place.offset now) (position + 1) now_kept waiting all whole now_given
  later_step place tone number d now now_kept now_given enough offset end size waits decided sure pushed noted heard =
      let count = after.count in
      let there : place.offset ≡ (length x + 1) % 8 = offset ∙ ap (λ n. (n + 1) % 8) count in
      let at : IsAt place all = record {
        offset = omega arith;
        window = window_there x sample place.offset there (omega arith);
        end_is = omega (arith, length_push x sample);
      } in
      let tones = tones_on x sample place.offset tone there (omega arith) decided in
      let numbers = numbers_on x sample place.offset number there (omega arith) sure in
      let was : LaneHasTaken (get_or lanes place.offset d) place.offset x =
      subst (λ w. LaneHasTaken (get_or lanes place.offset d) place.offset (if w then x else whole)) waits
      (after.lanes_stand place.offset d at.offset) in
      let taken : LaneHasTaken now place.offset all = record {
        stands = subst (LaneStandsFor now) tones (pushed (tones_at place.offset x) was.stands);
        knows = subst (LaneKnows now) numbers (noted (certainties place.offset x) was.knows);
      } in
      record {
        count = omega (arith, length_push x sample);
        lanes_stand = lanes_on lanes waiting x whole sample place.offset now there (omega arith) size waits
            after.lanes_stand taken;
        quiet = still_quiet;
        has_heard = taken_all now_kept now_given all
            (heard at was.stands taken (bits_on x sample place.offset tone tones)
            (taken_start kept given x sample after.has_heard));
      }
