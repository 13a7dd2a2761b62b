-- What the eight lanes of a ring found in a turn, and how far they came.
use Rattle.slicer_bank.proofs.Common.{◌≡◌, ℕ, ◌+◌, ◌<◌, List, [], ◌∷◌, ◌++◌, Bool, true, false, ◌&&◌, refl, ap, sym}
use Rattle.slicer_bank.proofs.Common.{◌∙◌, arith, subst, length, get_or, map, set, take, inl, inr, get_or-set_same}
use Rattle.slicer_bank.proofs.Common.{get_or-set_other, flat_map, list_all, IsPermutation, IsNonDecreasingBy, cases_eq}
use Rattle.slicer_bank.proofs.Common.{take_more, length-set, length-map, get_or-map, position_of, Candidate, LaneGap}
use Rattle.slicer_bank.proofs.Common.{RingLane, IsTaken, IsAlike}
use Rattle.std.proofs.lemmas.List.Folds.{list_all-append}
use Rattle.slicer_bank.specs.RingJobs.{IsGathered}
use Rattle.slicer_bank.proofs.GatheringLemmas.{Visited, visited_here, visited_more, alike_more, found_more, all_visited}
use Rattle.slicer_bank.proofs.GatheringLemmas.{same_list, some_of}

abbrev pub found_by : RingLane → List Candidate
found_by lane = lane.found.items

abbrev pub gaps_by : RingLane → List LaneGap
gaps_by lane = lane.gaps.items

abbrev pub ended_by : RingLane → Bool
ended_by lane = lane.ended

-- a lane gave all that it found, and had not wanted memory
abbrev pub GaveAll : ℕ → RingLane → RingLane → Type 0
GaveAll offset was lane = IsTaken lane × (was.spent ≡ false)

-- so many lanes have given what they found, and told how far they came, their gaps, and whether they met the end
pub record HaveGiven (old now : List RingLane) (n : ℕ) (positions : List ℕ) (candidates : List Candidate)
    (gaps : List LaneGap) (ended : Bool) : Type 0 where
  pub visited : Visited GaveAll old now n
  pub alike : (k : ℕ) (d : RingLane) → k < 8 → IsAlike (get_or old k d) (get_or now k d)
  pub found : candidates ≡ flat_map found_by (take n old)
  pub told : gaps ≡ flat_map gaps_by (take n old)
  pub over : ended ≡ list_all ended_by (take n old)
  pub room : length positions ≡ 8
  pub stand : (k : ℕ) (d : RingLane) → k < n → get_or positions k 0 ≡ position_of (get_or old k d).reader

pub given_more : (old now : List RingLane) (n : ℕ) (positions : List ℕ) (candidates candidates' : List Candidate)
    (gaps gaps' : List LaneGap) (ended ended' : Bool) (was lane : RingLane) (position : ℕ)
    → HaveGiven old now n positions candidates gaps ended → n < 8 → IsAlike (get_or now n was) lane → IsTaken lane
    → (get_or now n was).spent ≡ false
    → candidates' ≡ candidates ++ found_by (get_or now n was) → gaps' ≡ gaps ++ gaps_by (get_or now n was)
    → position ≡ position_of lane.reader → ended' ≡ (ended && lane.ended)
    → HaveGiven old (set now n lane) (n + 1) (set positions n position) candidates' gaps' ended'
given_more old now n positions candidates candidates' gaps gaps' ended ended' was lane position h l alike taken spent
    more_found more_gaps stands over =
    let v = h.visited in
    let eight = v.eight in
    let room = h.room in
    let here : (d : RingLane) → get_or now n was ≡ get_or old n d = λ d. visited_here GaveAll old now n was d v l in
    record {
      visited = visited_more GaveAll old now n was lane v l (taken, spent);
      alike = alike_more IsAlike GaveAll old now n was lane v l alike h.alike;
      found = found_more GaveAll found_by old now n was candidates candidates' v l h.found more_found;
      told = found_more GaveAll gaps_by old now n was gaps gaps' v l h.told more_gaps;
      over = over ∙ ap (λ b. b && lane.ended) h.over ∙ ap (λ b. list_all ended_by (take n old) && b) (alike.ended
          ∙ ap ended_by (here was) ∙ sym (and_true (ended_by (get_or old n was))))
          ∙ sym (list_all-append ended_by (take n old) (get_or old n was ∷ []))
          ∙ ap (list_all ended_by) (sym (take_more old n was (omega arith)));
      room = length-set positions n position ∙ room;
      stand = λ k d m. elim (cases_eq k n) [
        | inl e ↦
            ap (λ i. get_or (set positions n position) i 0) e ∙ get_or-set_same positions n position 0 (omega arith)
            ∙ stands ∙ ap position_of alike.reader ∙ ap (λ x. position_of x.reader) (here d)
            ∙ ap (λ i. position_of (get_or old i d).reader) (sym e)
        | inr ne ↦ get_or-set_other positions n k position 0 ne ∙ h.stand k d (omega arith)
      ];
    }
  where
    and_true : (b : Bool) → (b && true) ≡ b
    and_true true = refl
    and_true false = refl

-- all eight have given
pub turn_gathered : (old now : List RingLane) (n : ℕ) (positions : List ℕ) (candidates sorted : List Candidate)
    (gaps : List LaneGap) (ended : Bool)
    → HaveGiven old now n positions candidates gaps ended → n ≡ 8 → IsPermutation candidates sorted
    → IsNonDecreasingBy (λ item. item.end) sorted → IsGathered old positions sorted gaps ended
turn_gathered old now n positions candidates sorted gaps ended h full moved rises =
    let eight = h.visited.eight in
    let room = h.room in
    let one : RingLane = some_of old (omega arith) in
    let all : take n old ≡ old = all_visited GaveAll old now n h.visited full in
    let m = length-map old (λ lane. position_of lane.reader) in
    record {
      spent = λ k d l. (h.visited.done k d (omega arith)).1;
      stand = same_list positions (map (λ lane. position_of lane.reader) old) (omega arith)
          (λ k l. h.stand k one (omega arith)
          ∙ sym (get_or-map (λ lane. position_of lane.reader) old k one 0 (omega arith)));
      found = subst (λ items. IsPermutation items sorted) (h.found ∙ ap (flat_map found_by) all) moved;
      rising = rises;
      told = h.told ∙ ap (flat_map gaps_by) all;
      over = h.over ∙ ap (list_all ended_by) all;
    }
