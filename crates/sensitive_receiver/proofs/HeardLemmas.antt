-- What all lanes hear with more samples.
use Rattle.sensitive_receiver.proofs.Common.{◌≢◌, ℕ, ◌<◌, ◌≤◌, ℤ, List, [], ◌++◌, length, get_or, arith, inl, inr}
use Rattle.sensitive_receiver.proofs.Common.{length-append, fold, All, AllPairs, cases_lt, All-append, All-nil}
use Rattle.sensitive_receiver.proofs.Common.{Contains-append_left, Contains-append_right, Candidate, standing, place}
use Rattle.sensitive_receiver.proofs.Common.{IsCandidate, AreCandidatesAfter, AllPairs-append, end_within, added_places}
use Rattle.sensitive_receiver.proofs.Common.{EndsAtPlace, IsHeard, AreHeard, AreAddedBetween, settled}
use Rattle.std.specs.List.{Contains}
use Rattle.frame_merge.specs.Order.{IsInOrder}
use Rattle.slicer_bank.proofs.CandidateLemmas.{candidate_more, candidate_less}
use Rattle.slicer_bank.proofs.MergingLemmas.{rising_strictly}
use Rattle.slicer_bank.proofs.OrderingLemmas.{strictly_more, contains_more, all_more}
use Rattle.sensitive_receiver.proofs.FewKept.{lane_below}
use Rattle.sensitive_receiver.proofs.FoundLemmas.{one_place, delay_small}
use Rattle.sensitive_receiver.proofs.PrefixLanes.{ends-append, ends-take}

-- no samples are heard as nothing
pub none_heard : AreHeard [] []
none_heard = record {
  each = All-nil (IsHeard []);
  whole = λ item h. absurd (nothing item h);
  order = λ i j d ij jl. absurd (omega arith);
}
  where
    nothing : (item : Candidate) → IsHeard [] item → ⊥
    nothing item (inl h) = let end = h.ends.end_of in let within = end_within [] item h in omega arith
    nothing item (inr h) = let inside = h.decided in omega arith

-- what is heard in the first samples is heard in all
heard_more : (x y : List ℤ) (item : Candidate) → IsHeard x item → IsHeard (x ++ y) item
heard_more x y item (inl h) = inl (candidate_more x y item h)
heard_more x y item (inr h) =
    let len = length-append x y in
    let inside = h.decided in
    inr (record { place = h.place; decided = omega arith; ends = ends-append x y item h.place h.decided h.ends })

-- what the lanes hear in more samples
module _ (x y : List ℤ) (candidates found added : List Candidate) (are : AreHeard x candidates)
    (new : AreCandidatesAfter (length x) (x ++ y) found)
    (late : AreAddedBetween (added_places (length x)) (added_places (length (x ++ y))) (x ++ y) added) where
  abbrev pub all_of : List Candidate
  all_of = fold (λ ordered item. place item ordered) candidates (found ++ added)

  Apart : Candidate → Candidate → Type 0
  Apart item later = standing item ≢ standing later

  -- an item of the eight lanes and one of the others do not stand alike
  other_lane : (item other : Candidate) → IsCandidate (x ++ y) item → 8 ≤ other.offset → other.offset < 26
      → standing item ≢ standing other
  other_lane item other a least most same = let small = a.offset in omega arith

  rest_apart : AllPairs (λ item later. standing item ≢ standing later) (found ++ added)
  rest_apart =
      AllPairs-append (λ item later. standing item ≢ standing later) found added
      (λ i j d ij jl same. let lt = new.order i j d ij jl in omega arith) late.apart
      (λ i j d il jl. let e = new.each i d il in let f = late.each j d jl in
      other_lane (get_or found i d) (get_or added j d) e.0 f.2.least f.2.most)

  -- nothing new stands as what was heard before
  apart_before : (item old : Candidate) → IsHeard x old → IsCandidate (x ++ y) item → length x < item.end
      → standing old ≢ standing item
  apart_before item old (inl h) new_one following same =
      let within = end_within x old h in
      let a = h.offset in
      let b = new_one.offset in
      omega arith
  apart_before item old (inr h) new_one following same =
      let least = h.ends.least in
      let most = h.ends.most in
      let small = new_one.offset in
      omega arith

  apart_added : (item old : Candidate) (at : ℕ) → IsHeard x old → added_places (length x) ≤ at
      → EndsAtPlace (x ++ y) item at → standing old ≢ standing item
  apart_added item old at (inl h) from ends same =
      let least = ends.least in
      let most = ends.most in
      let small = h.offset in
      omega arith
  apart_added item old at (inr h) from ends same =
      let one = one_place (x ++ y) old item h.place at (ends-append x y old h.place h.decided h.ends) ends same in
      let p = one.0 in
      let inside = h.decided in
      omega arith

  pub heard_join : AreHeard (x ++ y) all_of
  heard_join =
      let P : Candidate → Type 0 = IsHeard (x ++ y) in
      let D : Candidate → Type 0 = λ item. All (λ old. standing old ≢ standing item) candidates in
      record {
        each = all_more P candidates (found ++ added) (λ k d l. heard_more x y (get_or candidates k d) (are.each k d l))
            (All-append P found added (λ k d l. inl (new.each k d l).0)
            (λ k d l. let e = late.each k d l in inr (record { place = e.0; decided = e.1.1; ends = e.2 })));
        whole = λ item h. contains_more candidates (found ++ added) item (member item h);
        order = strictly_more candidates (found ++ added) are.order rest_apart
            (All-append D found added
            (λ i d il k e l. let n = new.each i d il in apart_before (get_or found i d) (get_or candidates k e)
            (are.each k e l) n.0 n.1)
            (λ i d il k e l. let n = late.each i d il in apart_added (get_or added i d) (get_or candidates k e) n.0
            (are.each k e l) n.1.0 n.2));
      }
    where
      member : (item : Candidate) → IsHeard (x ++ y) item → Contains (candidates ++ (found ++ added)) item
      member item (inl h) = elim (cases_lt (length x) item.end) [
        | inl following ↦ Contains-append_right candidates (found ++ added) item
            (Contains-append_left found added item (new.whole item h following))
        | inr before ↦ Contains-append_left candidates (found ++ added) item
            (are.whole item (inl (candidate_less x y item h before)))
      ]
      member item (inr h) = elim (cases_lt h.place (added_places (length x))) [
        | inl before ↦ Contains-append_left candidates (found ++ added) item
            (are.whole item (inr (record {
              place = h.place;
              decided = before;
              ends = ends-take x y item h.place before h.ends;
            })))
        | inr following ↦ Contains-append_right candidates (found ++ added) item
            (Contains-append_right found added item (late.whole item h.place (following, h.decided) h.ends))
      ]

  -- nothing new ends below what is settled
  pub rest_late : All (λ item. settled (length x) ≤ item.end) (found ++ added)
  rest_late =
      All-append (λ item. settled (length x) ≤ item.end) found added
      (λ k d l. let n = new.each k d l in let following = n.1 in omega arith)
      (λ k d l. let n = late.each k d l in let from = n.1.0 in let end = n.2.end_of in
      let delay = delay_small (get_or added k d).offset n.2.most in omega arith)

  pub rest_small : All (λ item. item.offset < 256) (found ++ added)
  rest_small =
      All-append (λ item. item.offset < 256) found added
      (λ k d l. let n = new.each k d l in let small = n.0.offset in omega arith)
      (λ k d l. let n = late.each k d l in let most = n.2.most in omega arith)

-- the candidates of all lanes are in order
pub heard_in_order : (x : List ℤ) (items : List Candidate) → AreHeard x items → IsInOrder items
heard_in_order x items are = record {
  rising = rising_strictly items are.order;
  offsets = λ k d l. let small = lane_below x (get_or items k d) (are.each k d l) in omega arith;
}
