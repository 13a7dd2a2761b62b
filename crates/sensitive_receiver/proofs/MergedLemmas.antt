-- What all lanes hear obeys the laws of a receiver.
use Rattle.sensitive_receiver.proofs.Common.{◌≡◌, ℕ, ◌+◌, ◌-◌, ◌<◌, ◌≤◌, Bool, true, ℤ, List, [], ◌∷◌, ◌++◌, length}
use Rattle.sensitive_receiver.proofs.Common.{get_or, refl, inl, inr, ap, sym, subst, ◌∙◌, arith, nat_le, nat_lt, ◌&&◌}
use Rattle.sensitive_receiver.proofs.Common.{All, All-append, ltb-true, leb-true, lt-ltb, and_parts, All-weaker}
use Rattle.sensitive_receiver.proofs.Common.{All-filter, filter_passes, AllPairs-filter, Candidate, standing, merged}
use Rattle.sensitive_receiver.proofs.Common.{in_order, below, IsCandidate, AreCandidatesAfter, below_more}
use Rattle.sensitive_receiver.proofs.Common.{added_places, delay_of, EndsAtPlace, IsHeard, AreHeard, AreAddedBetween}
use Rattle.sensitive_receiver.proofs.Common.{settled}
use Rattle.std.specs.List.{filter}
use Rattle.std.specs.List.Sorted.{IsNonDecreasingBy}
use Rattle.std.proofs.lemmas.Bool.{le-leb}
use Rattle.frame_merge.proofs.Ordering.{rising_ends}
use Rattle.frame_merge.proofs.Merging.{merged-rising}
use Rattle.block_receiver.specs.Hearing.{IsHearing, Adds, CanBePutFrom as CanBePutOfFrom}
use Rattle.block_receiver.proofs.AddingLemmas.{put_among}
use Rattle.slicer_bank.specs.Merging.{AllPast, CanBePut as CanBePutOfEight}
use Rattle.slicer_bank.proofs.MergedLemmas.{contains_passing}
use Rattle.slicer_bank.proofs.OneList.{same_list}
use Rattle.sensitive_receiver.specs.AllHearing.{hearing_of_all}
use Rattle.sensitive_receiver.specs.Found.{HasRoom, IsAddedFrom}
use Rattle.sensitive_receiver.proofs.FewKept.{heard_within}
use Rattle.sensitive_receiver.proofs.FoundLemmas.{delay_small}
use Rattle.sensitive_receiver.proofs.HeardLemmas.{all_of, heard_join, none_heard, rest_late, rest_small, heard_in_order}

-- samples have one list of candidates
pub one_list : (x : List ℤ) (items others : List Candidate) → AreHeard x items → AreHeard x others → items ≡ others
one_list x items others a b =
    same_list items others a.order b.order (λ k d l. b.whole (get_or items k d) (a.each k d l))
    (λ k d l. a.whole (get_or others k d) (b.each k d l))

-- the merged candidates do not fall in their ends
pub rising_heard : (x : List ℤ) (items : List Candidate) → AreHeard x items
    → IsNonDecreasingBy (λ item. item.end) (merged items)
rising_heard x items are = merged-rising (λ item. item.end) [] items (rising_ends items (heard_in_order x items are))

-- each ends within the samples
ends_within : (x : List ℤ) (items : List Candidate) → AreHeard x items → All (λ item. item.end < length x + 1) items
ends_within x items are k d l = let within = heard_within x (get_or items k d) (are.each k d l) in omega arith

-- ---- more samples

module _ (x y : List ℤ) (items all : List Candidate) (are : AreHeard x items) (whole : AreHeard (x ++ y) all) where
  -- what the eight lanes hear that ends past the first samples
  is_late : Candidate → Bool
  is_late item = nat_lt item.offset 8 && nat_lt (length x) item.end

  late : List Candidate
  late = filter is_late all

  late_one : (item : Candidate) → IsHeard (x ++ y) item → is_late item ≡ true
      → IsCandidate (x ++ y) item × (length x < item.end)
  unfolding is_late
  late_one item (inl h) passes =
      (h, ltb-true (length x) item.end (and_parts (nat_lt item.offset 8) (nat_lt (length x) item.end) passes).1)
  late_one item (inr h) passes =
      let small = ltb-true item.offset 8 (and_parts (nat_lt item.offset 8) (nat_lt (length x) item.end) passes).0 in
      let least = h.ends.least in
      absurd (omega arith)

  late_passes : (item : Candidate) → IsCandidate (x ++ y) item → length x < item.end → is_late item ≡ true
  unfolding is_late
  late_passes item h following = (λ i. lt-ltb item.offset 8 h.offset i && lt-ltb (length x) item.end following i)

  late_are : AreCandidatesAfter (length x) (x ++ y) late
  unfolding late
  late_are = record {
    each = λ k d l. late_one (get_or late k d) (All-filter is_late (IsHeard (x ++ y)) all whole.each k d l)
        (filter_passes is_late all k d l);
    whole = λ item h following. contains_passing is_late all item (whole.whole item (inl h)) (late_passes item h following);
    order = AllPairs-filter (λ item later. standing item < standing later) is_late all whole.order;
  }

  -- what the added lanes hear at later places
  place_of : Candidate → ℕ
  place_of item = item.end + delay_of item.offset - 8

  is_added : Candidate → Bool
  is_added item = nat_le 8 item.offset && nat_le (added_places (length x)) (place_of item)

  added : List Candidate
  added = filter is_added all

  place_is : (item : Candidate) (place : ℕ) → EndsAtPlace (x ++ y) item place → place_of item ≡ place
  unfolding place_of
  place_is item place h = let end = h.end_of in let small = delay_small item.offset h.most in omega arith

  added_one : (item : Candidate) → IsHeard (x ++ y) item → is_added item ≡ true
      → (place : ℕ) × ((added_places (length x) ≤ place) × (place < added_places (length (x ++ y)))) × EndsAtPlace
      (x ++ y) item place
  unfolding is_added
  added_one item (inl h) passes =
      let large = leb-true 8 item.offset
      (and_parts (nat_le 8 item.offset) (nat_le (added_places (length x)) (place_of item)) passes).0 in
      let small = h.offset in
      absurd (omega arith)
  added_one item (inr h) passes =
      let following = leb-true (added_places (length x)) (place_of item)
      (and_parts (nat_le 8 item.offset) (nat_le (added_places (length x)) (place_of item)) passes).1 in
      let is = place_is item h.place h.ends in
      (h.place, (omega arith, h.decided), h.ends)

  added_passes : (item : Candidate) (place : ℕ) → added_places (length x) ≤ place → EndsAtPlace (x ++ y) item place
      → is_added item ≡ true
  unfolding is_added
  added_passes item place following h =
      let is = place_is item place h in
      (λ i. le-leb 8 item.offset h.least i && le-leb (added_places (length x)) (place_of item) (omega arith) i)

  added_are : AreAddedBetween (added_places (length x)) (added_places (length (x ++ y))) (x ++ y) added
  unfolding added
  added_are =
      let rises = AllPairs-filter (λ item later. standing item < standing later) is_added all whole.order in
      record {
        each = λ k d l. added_one (get_or added k d) (All-filter is_added (IsHeard (x ++ y)) all whole.each k d l)
            (filter_passes is_added all k d l);
        whole = λ item place of ends.
            contains_passing is_added all item
            (whole.whole item (inr (record { place = place; decided = of.1; ends = ends })))
            (added_passes item place of.0 ends);
        apart = λ i j d ij jl same. let lt = rises i j d ij jl in omega arith;
      }

  -- more samples change nothing of what is settled
  pub below_still : (to : ℕ) → to ≤ settled (length x) → below to (merged items) ≡ below to (merged all)
  below_still to within =
      let joined : List Candidate = all_of x y items late added are late_are added_are in
      let same : joined ≡ all = one_list (x ++ y) joined all
      (heard_join x y items late added are late_are added_are) whole in
      let kept : All (λ item. to ≤ item.end) (late ++ added)
      = All-weaker (λ item. settled (length x) ≤ item.end) (λ item. to ≤ item.end) (λ item l. omega arith)
      (late ++ added) (rest_late x y items late added are late_are added_are) in
      sym (below_more to items (late ++ added) (heard_in_order x items are)
      (rest_small x y items late added are late_are added_are) kept)
      ∙ ap (λ t. below to (merged t)) same

-- what the eight lanes and the added ones bring with a block is put among what was heard
pub adds : (x y : List ℤ) (found added all : List Candidate) → all ≡ found ++ added
    → AreCandidatesAfter (length x) (x ++ y) found
    → AreAddedBetween (added_places (length x)) (added_places (length (x ++ y))) (x ++ y) added
    → Adds AreHeard x (x ++ y) all
adds x y found added all is new late = subst (Adds AreHeard x (x ++ y)) (sym is) (λ puts are.
    subst (AreHeard (x ++ y)) (sym (put_among puts (found ++ added)))
    (heard_join x y (in_order puts) found added are new late))

-- and can be put into a merger that is marked where the block began
pub can_be_put : (position eight_at added_at : ℕ) (found added all : List Candidate) → all ≡ found ++ added
    → eight_at ≡ position → added_at ≡ position → All CanBePutOfEight found → AllPast eight_at found
    → All HasRoom added → All (IsAddedFrom (added_at - 32)) added
    → All (CanBePutOfFrom 26 (settled position)) all
can_be_put position eight_at added_at found added all is eight_is added_is fits past room late =
    subst (All (CanBePutOfFrom 26 (settled position))) (sym is)
    (All-append (CanBePutOfFrom 26 (settled position)) found added
    (λ k d l.
    let can = fits k d l in
    let lane = can.lane in
    let following = past k d l in
    record { can = record { lane = omega arith; end = can.end }; from = omega arith })
    (λ k d l.
    let has = room k d l in
    let end = has.end in
    let from = (late k d l).end in
    record { can = record { lane = has.lane; end = omega arith }; from = omega arith }))

pub is_hearing : IsHearing hearing_of_all
is_hearing = record {
  some = omega arith;
  few = omega arith;
  none = none_heard;
  order = heard_in_order;
  ends = ends_within;
  begins = refl;
  rises = λ count more. omega arith;
  within = λ count. omega arith;
  near = λ count. omega arith;
  stays = λ x y items all position are whole low. sym (below_still x y items all are whole position low);
}
