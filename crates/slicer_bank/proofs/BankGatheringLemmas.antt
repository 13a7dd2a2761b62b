-- What the eight lanes of a bank heard, each in a job of its own, as one list.
use Rattle.slicer_bank.proofs.Common.{◌≡◌, ℕ, ◌+◌, ◌<◌, ℤ, List, [], length, get_or, Option, Some, None, refl, ap, sym}
use Rattle.slicer_bank.proofs.Common.{arith, subst, All, flat_map, IsPermutation, IsNonDecreasingBy}
use Rattle.slicer_bank.proofs.Common.{Contains-permutation, All-permutation, windows_in, Candidate, IsCandidate}
use Rattle.slicer_bank.proofs.Common.{AreCandidatesAfter, HeldLane, AreOfWindows, LanesKeep, LanesKeepFit}
use Rattle.slicer_bank.proofs.Common.{CanBePutPast}
use Rattle.slicer_bank.specs.Heard.{AreAlike}
use Rattle.slicer_bank.proofs.CandidateLemmas.{end_within}
use Rattle.slicer_bank.proofs.GatheringLemmas.{flat_all, flat_contains, some_of, stands_in_order}

abbrev pub items_of : Option (List Candidate) → List Candidate
items_of None = []
items_of (Some items) = items

abbrev pub heard_by : HeldLane → List Candidate
heard_by lane = items_of lane.heard

-- a lane gave what it heard: it had not wanted memory
abbrev pub GaveHeard : ℕ → HeldLane → HeldLane → Type 0
GaveHeard offset was lane = AreAlike lane was × ((items : List Candidate) × (was.heard ≡ Some items))

module _ (lanes : List HeldLane) (eight : length lanes ≡ 8) (heard : (k : ℕ) (d : HeldLane) → k < 8
    → (items : List Candidate) × ((get_or lanes k d).heard ≡ Some items))
    (sorted : List Candidate) (moved : IsPermutation (flat_map heard_by lanes) sorted) where
  pub fit_there : (position : ℕ) → LanesKeepFit position lanes → All (CanBePutPast position) sorted
  fit_there position keep = All-permutation (CanBePutPast position) (flat_map heard_by lanes) sorted moved
      (flat_all (CanBePutPast position) heard_by lanes (λ k d l. let h = heard k d (omega arith) in
      subst (All (CanBePutPast position)) (sym (ap items_of h.1)) (keep k d h.0 (omega arith) h.1)))

  pub lanes_in_order : (position : ℕ) (x : List ℤ) → IsNonDecreasingBy (λ item. item.end) sorted
      → LanesKeep position x lanes → AreCandidatesAfter position x sorted
  lanes_in_order position x rises keep =
      let P : Candidate → Type 0 = λ item. IsCandidate x item × (position < item.end) in
      record {
        each = All-permutation P (flat_map heard_by lanes) sorted moved (flat_all P heard_by lanes (λ k d l i e il.
            let c = (of_windows k d (omega arith)).each i e il in
            let is = c.1 in
            let low = c.2 in
            let end = c.0.ends.end_of in
            (c.0, omega arith)));
        whole = λ item c past.
            let small = c.offset in
            let end = c.ends.end_of in
            let within = end_within x item c in
            Contains-permutation (flat_map heard_by lanes) sorted item moved
            (flat_contains heard_by lanes item.offset one item (omega arith)
            ((of_windows item.offset one c.offset).whole item c refl (omega arith) (omega arith)));
        order = stands_in_order heard_by lanes sorted eight
            (λ k d l. record {
              each = λ i e il. let c = (of_windows k d l).each i e il in let is = c.1 in let end = c.0.ends.end_of in
                  (c.1, (c.0.index + 1, omega arith));
              rising = (of_windows k d l).order;
            })
            moved rises;
      }
    where
      one : HeldLane
      one = some_of lanes (omega arith)

      of_windows : (k : ℕ) (d : HeldLane) → k < 8 → AreOfWindows k (windows_in k position) (windows_in k (length x)) x
          (heard_by (get_or lanes k d))
      of_windows k d l = let h = heard k d l in
          subst (AreOfWindows k (windows_in k position) (windows_in k (length x)) x) (sym (ap items_of h.1))
          (keep k d h.0 l h.1)
