-- The lanes after one sample more.
use Rattle.fx25_receiver.proofs.Common.{◌≡◌, ℕ, ◌+◌, ◌*◌, ◌/◌, ◌%◌, ◌<◌, ◌≤◌, ℤ, List, [], ◌∷◌, ◌++◌, length, get_or}
use Rattle.fx25_receiver.proofs.Common.{ap}
use Rattle.fx25_receiver.proofs.Common.{sym, ◌∙◌, subst, arith, inl, inr, All, bits, bits_of, tones_at}
use Rattle.fx25_receiver.proofs.Common.{windows_in, last_seven}
use Rattle.offset_slicers.proofs.WindowLemmas.{length-tones_at}
use Rattle.fx25_receiver.proofs.Common.{All-append, All-cons, All-nil, certainties, refl, EndsWindow, HeldLane, IsFresh}
use Rattle.fx25_receiver.proofs.Common.{KnowsNumbers, LaneHasTaken, LaneStandsFor}
use Rattle.fx25_receiver.proofs.CertaintyLemmas.{certainties-push_none, certainties-seven, length-certainties}
use Rattle.fx25_receiver.specs.Certainty.{certainty}
use Rattle.fx25_receiver.proofs.Common.{LanesStandFor, length_push, Tone}
use Rattle.std.proofs.Common.{set, get_or-set_other, get_or-set_same, ◌-◌}
use Rattle.fx25_receiver.proofs.Common.{Bool, cases_eq, false, false≢true, true, if◌then◌else◌}
use Rattle.fx25_receiver.specs.Ahead.{LanesStandAhead, taken_by}
use Rattle.offset_slicers.specs.Decision.{tone_of}
use Rattle.offset_slicers.proofs.SlicerLemmas.{tones_at-push_none}
use Rattle.slicer_bank.proofs.SevenLemmas.{tones_at-seven}

-- a lane that no window of the sample belongs to
same_windows : (offset : ℕ) (x : List ℤ) (sample : ℤ) (lane : HeldLane)
    → windows_in offset (length x + 1) ≡ windows_in offset (length x) → LaneHasTaken lane offset x
    → LaneHasTaken lane offset (x ++ sample ∷ [])
same_windows offset x sample lane same taken = record {
  stands = subst (λ tones. LaneStandsFor lane tones) (sym (tones_at-push_none offset x sample same)) taken.stands;
  knows = subst (λ ns. KnowsNumbers lane.reader lane.certainties ns) (sym (certainties-push_none offset x sample same))
      taken.knows;
}

-- what a lane has taken, of which one sample more is taken, or all
taken_more : (waits : Bool) (offset : ℕ) (x whole : List ℤ) (sample : ℤ) (lane : HeldLane)
    → (waits ≡ true → LaneHasTaken lane offset x → LaneHasTaken lane offset (x ++ sample ∷ []))
    → LaneHasTaken lane offset (if waits then x else whole)
    → LaneHasTaken lane offset (if waits then x ++ sample ∷ [] else whole)
taken_more true offset x whole sample lane on stands = on refl stands
taken_more false offset x whole sample lane on stands = stands

-- before the eighth sample no window ends
pub lanes_early : (lanes : List HeldLane) (waiting : List Bool) (x whole : List ℤ) (sample : ℤ) → length x + 1 < 8
    → LanesStandAhead lanes waiting x whole → LanesStandAhead lanes waiting (x ++ sample ∷ []) whole
lanes_early lanes waiting x whole sample few stand offset d small =
    taken_more (get_or waiting offset true) offset x whole sample (get_or lanes offset d)
    (λ waits. same_windows offset x sample (get_or lanes offset d) (omega arith)) (stand offset d small)

-- a sample that ends a window of a lane that is ahead
pub lanes_skip : (lanes : List HeldLane) (waiting : List Bool) (x whole : List ℤ) (sample : ℤ) (place : ℕ)
    → place ≡ (length x + 1) % 8 → 8 ≤ length x + 1 → get_or waiting place true ≡ false
    → LanesStandAhead lanes waiting x whole → LanesStandAhead lanes waiting (x ++ sample ∷ []) whole
lanes_skip lanes waiting x whole sample place is enough ahead stand offset d small =
    taken_more (get_or waiting offset true) offset x whole sample (get_or lanes offset d)
    (λ waits. elim (cases_eq offset place) [
      | inl here ↦ absurd (false≢true (sym ahead ∙ ap (λ o. get_or waiting o true) (sym here) ∙ waits))
      | inr apart ↦ same_windows offset x sample (get_or lanes offset d) (omega arith)
    ]) (stand offset d small)

-- the lane whose window the sample ends takes its tone
pub tones_on : (x : List ℤ) (sample : ℤ) (place : ℕ) (tone : Tone) → place ≡ (length x + 1) % 8 → 8 ≤ length x + 1
    → tone ≡ tone_of (last_seven x ++ sample ∷ [])
    → tones_at place x ++ tone ∷ [] ≡ tones_at place (x ++ sample ∷ [])
tones_on x sample place tone is enough decided =
    let k : ℕ = (length x + 1) / 8 in
    let window : length x + 1 ≡ place + 8 * ((k - 1) + 1) = omega arith in
    ap (λ t. tones_at place x ++ t ∷ []) decided ∙ sym (tones_at-seven place (k - 1) x sample window (omega arith))

-- and the number of that window
pub numbers_on : (x : List ℤ) (sample : ℤ) (place number : ℕ) → place ≡ (length x + 1) % 8 → 8 ≤ length x + 1
    → number ≡ certainty (last_seven x ++ sample ∷ [])
    → certainties place x ++ number ∷ [] ≡ certainties place (x ++ sample ∷ [])
numbers_on x sample place number is enough told =
    let k : ℕ = (length x + 1) / 8 in
    let window : length x + 1 ≡ place + 8 * ((k - 1) + 1) = omega arith in
    ap (λ n. certainties place x ++ n ∷ []) told ∙ sym (certainties-seven place (k - 1) x sample window (omega arith))

pub bits_on : (x : List ℤ) (sample : ℤ) (place : ℕ) (tone : Tone)
    → tones_at place x ++ tone ∷ [] ≡ tones_at place (x ++ sample ∷ [])
    → bits_of (tones_at place x ++ tone ∷ []) ≡ bits place (x ++ sample ∷ [])
unfolding bits
bits_on x sample place tone is = ap bits_of is

pub lanes_on : (lanes : List HeldLane) (waiting : List Bool) (x whole : List ℤ) (sample : ℤ) (place : ℕ) (now : HeldLane)
    → place ≡ (length x + 1) % 8 → 8 ≤ length x + 1 → length lanes ≡ 8 → get_or waiting place true ≡ true
    → LanesStandAhead lanes waiting x whole → LaneHasTaken now place (x ++ sample ∷ [])
    → LanesStandAhead (set lanes place now) waiting (x ++ sample ∷ []) whole
lanes_on lanes waiting x whole sample place now is enough size waits stand stands offset d small =
    elim (cases_eq place offset) [
      | inl same ↦
          subst (λ o. LaneHasTaken (get_or (set lanes place now) o d) o (taken_by waiting o all whole)) same
          (subst (λ l. LaneHasTaken l place (taken_by waiting place all whole))
          (sym (get_or-set_same lanes place now d (omega arith)))
          (subst (λ w. LaneHasTaken now place (if w then all else whole)) (sym waits) stands))
      | inr apart ↦
          subst (λ l. LaneHasTaken l offset (taken_by waiting offset all whole))
          (sym (get_or-set_other lanes place offset now d (λ e. apart (sym e))))
          (taken_more (get_or waiting offset true) offset x whole sample (get_or lanes offset d)
          (λ waits. same_windows offset x sample (get_or lanes offset d) (omega arith)) (stand offset d small))
    ]
  where
    all : List ℤ
    all = x ++ sample ∷ []

-- a sample that ends a window of a place
pub window_there : (x : List ℤ) (sample : ℤ) (place : ℕ) → place ≡ (length x + 1) % 8 → 8 ≤ length x + 1
    → EndsWindow place (x ++ sample ∷ [])
window_there x sample place is enough =
    let size = length_push x sample in
    ((length x + 1) / 8 - 1, omega arith)

-- so many lanes that have taken nothing
pub record AreFresh (n : ℕ) (lanes : List HeldLane) : Type 0 where
  pub count : length lanes ≡ n
  pub each : All IsFresh lanes

pub fresh_more : (n : ℕ) (lanes : List HeldLane) (lane : HeldLane) → AreFresh n lanes → IsFresh lane
    → AreFresh (n + 1) (lanes ++ lane ∷ [])
fresh_more n lanes lane h fresh = record {
  count = length_push lanes lane ∙ ap (λ t. t + 1) h.count;
  each = All-append IsFresh lanes (lane ∷ []) h.each (All-cons IsFresh lane [] fresh (All-nil IsFresh));
}

empty : {A : Type 0} (xs : List A) → length xs ≡ 0 → xs ≡ []
empty [] h = refl
empty (x ∷ xs) h = absurd (omega arith)

-- no samples give no tones
tones_of_none : (offset : ℕ) → tones_at offset [] ≡ []
tones_of_none offset = empty (tones_at offset []) (length-tones_at offset [] ∙ omega arith)

-- and no numbers
numbers_of_none : (offset : ℕ) → certainties offset [] ≡ []
numbers_of_none offset = empty (certainties offset []) (length-certainties offset [] ∙ omega arith)

pub fresh_stand : (lanes : List HeldLane) → length lanes ≡ 8 → All IsFresh lanes → LanesStandFor lanes []
fresh_stand lanes all each k d below =
    let lane : HeldLane = get_or lanes k d in
    let fresh = each k d (omega arith) in
    record {
      stands = subst (LaneStandsFor lane) (sym (tones_of_none k)) fresh.stands;
      knows = subst (KnowsNumbers lane.reader lane.certainties) (sym (numbers_of_none k)) fresh.knows;
    }
