-- The merged candidates of forty lanes, and of these with more samples.
use Rattle.wide_input.proofs.Common.{◌≡◌, ℕ, zero, suc, ◌<◌, ◌≤◌, ℤ, List, [], ◌∷◌, ◌++◌, length, get_or, refl, ap, ◌∙◌}
use Rattle.wide_input.proofs.Common.{arith, nat_lt, ltb-true, Candidate, standing, merged, below, IsCandidate}
use Rattle.wide_input.proofs.Common.{AreCandidatesAfter, below_more, stream, least_count, AreWideCandidates, brought}
use Rattle.std.specs.List.{filter}
use Rattle.std.proofs.lemmas.Bool.{lt-ltb}
use Rattle.std.proofs.lemmas.List.Elements.{All-filter, filter_passes}
use Rattle.std.proofs.lemmas.List.Kept.{AllPairs-filter}
use Rattle.slicer_bank.specs.Candidates.{AreCandidates}
use Rattle.slicer_bank.proofs.MergedLemmas.{contains_passing}
use Rattle.slicer_bank.proofs.OneList.{same_list}
use Rattle.slicer_bank.proofs.SomeList.{some_list}
use Rattle.wide_input.proofs.WideLemmas.{AreBrought, HaveFound, all_brought, placed, candidates_with, lane_small}
use Rattle.wide_input.proofs.WideLemmas.{brought_late, wide_in_order}
use Rattle.wide_input.proofs.WideSteps.{no_wide}

-- samples have one list of wide candidates
pub one_wide : (x : List ℤ) (items others : List Candidate) → AreWideCandidates x items → AreWideCandidates x others
    → items ≡ others
one_wide x items others a b =
    same_list items others a.order b.order
    (λ k d l. b.whole (get_or items k d) (a.each k d l))
    (λ k d l. a.whole (get_or others k d) (b.each k d l))

-- the candidates of a stream that end after a position
after_of : (position : ℕ) (x : List ℤ) → (found : List Candidate) × AreCandidatesAfter position x found
after_of position x =
    let some = some_list x in
    let all : List Candidate = some.0 in
    let whole : AreCandidates x all = some.1 in
    let late : List Candidate = filter (λ item. nat_lt position item.end) all in
    let passes = filter_passes (λ item. nat_lt position item.end) all in (
      late,
      record {
        each = λ k d l.
            let e = All-filter (λ item. nat_lt position item.end) (λ item. IsCandidate x item × (0 < item.end))
            all whole.each k d l in
            (e.0, ltb-true position (get_or late k d).end (passes k d l));
        whole = λ item is l. contains_passing (λ other. nat_lt position other.end) all item
            (whole.whole item is (omega arith)) (lt-ltb position item.end l);
        order = AllPairs-filter (λ item later. standing item < standing later) (λ item. nat_lt position item.end)
            all whole.order;
      },
    )

module _ (x y : List ℤ) where
  found_in : ℕ → List Candidate
  found_in number = (after_of (length (stream number x)) (stream number (x ++ y))).0

  found_is : (number : ℕ) → AreCandidatesAfter (length (stream number x)) (stream number (x ++ y)) (found_in number)
  unfolding found_in
  found_is number = (after_of (length (stream number x)) (stream number (x ++ y))).1

  -- what five streams find after their parts of the first samples
  abbrev founds : List (List Candidate)
  founds = found_in 0 ∷ found_in 1 ∷ found_in 2 ∷ found_in 3 ∷ found_in 4 ∷ []

  founds_are : HaveFound x y 0 founds
  founds_are zero d l = found_is 0
  founds_are (suc zero) d l = found_is 1
  founds_are (suc (suc zero)) d l = found_is 2
  founds_are (suc (suc (suc zero))) d l = found_is 3
  founds_are (suc (suc (suc (suc zero)))) d l = found_is 4
  founds_are (suc (suc (suc (suc (suc k))))) d l = absurd (omega arith)

  -- what more samples bring
  pub new_items : List Candidate
  new_items = brought 0 founds

  pub new_are : AreBrought x y new_items
  unfolding new_items
  new_are = all_brought x y founds refl founds_are

-- the candidates of more samples are those of the first, and what the others bring in its places
pub wide_begins : (x y : List ℤ) (items all : List Candidate) → AreWideCandidates x items
    → AreWideCandidates (x ++ y) all → all ≡ placed items (new_items x y)
wide_begins x y items all are whole = one_wide (x ++ y) all (placed items (new_items x y)) whole
    (candidates_with x y items (new_items x y) are (new_are x y))

-- all samples have wide candidates
pub some_wide : (x : List ℤ) → (items : List Candidate) × AreWideCandidates x items
some_wide x = (placed [] (new_items [] x), candidates_with [] x [] (new_items [] x) no_wide (new_are [] x))

-- more samples change nothing of what is merged below the least count
pub below_still : (to : ℕ) (x y : List ℤ) (items all : List Candidate) → to ≤ least_count x → AreWideCandidates x items
    → AreWideCandidates (x ++ y) all
    → below to (merged all) ≡ below to (merged items)
below_still to x y items all within are whole =
    ap (λ t. below to (merged t)) (wide_begins x y items all are whole)
    ∙ below_more to items (new_items x y) (wide_in_order x items are)
    (λ k d l. let small = lane_small (x ++ y) (get_or (new_items x y) k d) ((new_are x y).each k d l).wide in
    omega arith)
    (λ k d l. let late = brought_late x y (new_items x y) (new_are x y) k d l in omega arith)
