-- What all lanes hear of a ring, merged turn by turn.
use Rattle.ring_receiver.proofs.Common.{◌≡◌, ◌≢◌, ℕ, ◌-◌, ◌^◌, ◌<◌, ◌≤◌, ◌⊎◌, ⊎_elim, inl, inr, true, List, [], ◌∷◌}
use Rattle.ring_receiver.proofs.Common.{◌++◌, length, map, take, get_or, replicate, refl, ap, sym, subst, ◌∙◌, arith}
use Rattle.ring_receiver.proofs.Common.{zero, suc, fold, min, All, AllPairs, Contains, map-append, fold-append, All-nil}
use Rattle.ring_receiver.proofs.Common.{All-append, Contains-append_left, Contains-append_right, Got, Reader, reads_of}
use Rattle.ring_receiver.proofs.Common.{answer, Candidate, least, merged, standing, IsHeardOnRing, lane_of}
use Rattle.ring_receiver.proofs.Common.{least_position, Stretch, stretches, answers_of, AllPairs-append, least_rises}
use Rattle.ring_receiver.proofs.Common.{IsAddedIn, BringsByAll, IsHeardBy, AreHeardBy, AreMergedBy, AreRestBy}
use Rattle.ring_receiver.proofs.Common.{settled_position, HasMergedBy, HasMergedAll}
use Rattle.std.specs.List.Sorted.{IsNonDecreasingBy}
use Rattle.std.proofs.lemmas.List.{get_or-take, append_cancel_left}
use Rattle.frame_merge.specs.Held.{Held as HeldMerger, StandsFor as MergerStandsFor}
use Rattle.frame_merge.specs.Merged.{below, not_below}
use Rattle.frame_merge.specs.Order.{place, in_order, IsInOrder}
use Rattle.frame_merge.proofs.Forgetting.{below_then_rest}
use Rattle.frame_merge.proofs.Merging.{merged-rising}
use Rattle.frame_merge.proofs.Ordering.{rising_ends}
use Rattle.slicer_bank.specs.HeardOnRing.{IsHeardIn, lane_positions}
use Rattle.slicer_bank.proofs.MergedLemmas.{next_is}
use Rattle.slicer_bank.proofs.MergingLemmas.{rising_strictly}
use Rattle.slicer_bank.proofs.OrderingLemmas.{strictly_more, contains_more, all_more, below_more}
use Rattle.slicer_bank.proofs.RingMergingLemmas.{none_on_ring, heard_still, known_or_new, stands_apart, late}

-- ---- the eight lanes of nine readers

first_heard : (lanes : List (List Got)) (item : Candidate) → IsHeardOnRing (take 8 lanes) item
    → IsHeardOnRing lanes item
first_heard lanes item h = record {
  offset = h.offset;
  heard = subst (λ a. IsHeardIn a item) (get_or-take 8 lanes item.offset [] h.offset) h.heard;
}

heard_first : (lanes : List (List Got)) (item : Candidate) → IsHeardOnRing lanes item
    → IsHeardOnRing (take 8 lanes) item
heard_first lanes item h = record {
  offset = h.offset;
  heard = subst (λ a. IsHeardIn a item) (sym (get_or-take 8 lanes item.offset [] h.offset)) h.heard;
}

-- the lane of what is heard
added_lane : (answers : List Got) (item : Candidate) → IsAddedIn answers item
    → (8 ≤ item.offset) × (item.offset < 26)
added_lane answers item h =
    let same : item.offset ≡ h.heard.offset = ap (λ c. c.offset) h.item_is in
    let least = h.added.ends.least in
    let most = h.added.ends.most in
    (omega arith, omega arith)

lane_below : (lanes : List (List Got)) (item : Candidate) → IsHeardBy true lanes item → item.offset < 256
lane_below lanes item (inl h) = let l = h.offset in omega arith
lane_below lanes item (inr h) = let l = added_lane (lane_of lanes 8) item h in let m = l.1 in omega arith

pub in_order_heard : (lanes : List (List Got)) (candidates : List Candidate) → AreHeardBy true lanes candidates
    → IsInOrder candidates
in_order_heard lanes candidates are = record {
  rising = rising_strictly candidates are.order;
  offsets = λ k d l. lane_below lanes (get_or candidates k d) (are.each k d l);
}

-- ---- readers that have read nothing

none_added : (item : Candidate) → IsAddedIn [] item → ⊥
none_added item h = only h.is where
  only : Contains (stretches []) h.stretch → ⊥
  only (zero, l, e) =
      let inside = h.added.decided in
      let size : 0 ≡ length h.stretch.samples = ap (λ (s : Stretch). length s.samples) e in
      omega arith
  only (suc k, l, e) = absurd (omega arith)

none_by_all : (item : Candidate) → IsHeardBy true (replicate 9 []) item → ⊥
none_by_all item (inl h) = none_on_ring item (heard_first (replicate 9 []) item h)
none_by_all item (inr h) = none_added item h

pub nothing_merged_all : (merger : HeldMerger) → merger.marks ≡ replicate 26 0 → MergerStandsFor merger [] []
    → HasMergedAll merger (replicate 9 [])
nothing_merged_all merger marks stands = record {
  marks = marks;
  puts = [];
  candidates = [];
  are = record {
    each = All-nil (IsHeardBy true (replicate 9 []));
    whole = λ item h. absurd (none_by_all item h);
    order = λ i j d ij jl. absurd (omega arith);
  };
  order = refl;
  so_far = stands;
}

pub nothing_nine : (len : ℕ) (eight : List Reader) (last : Reader) → map (answers_of len) eight ≡ replicate 8 []
    → reads_of last ≡ [] → map (answers_of len) (eight ++ last ∷ []) ≡ replicate 9 []
nothing_nine len eight last none nothing =
    map-append (answers_of len) eight (last ∷ []) ∙ ap (λ l. l ++ answers_of len last ∷ []) none
    ∙ ap (λ a. replicate 8 [] ++ map (answer len) a ∷ []) nothing

-- ---- one turn more

module _ (before now : List (List Got)) (positions : List ℕ) (position : ℕ) (eight added : List Candidate)
    (b : BringsByAll before now positions position eight added) where
  abbrev pub items : List Candidate
  items = eight ++ added

  each : All (IsHeardBy true now) items
  each = All-append (IsHeardBy true now) eight added
      (λ k d l. inl (first_heard now (get_or eight k d) (b.first.heard.each k d l).0))
      (λ k d l. inr (b.others.each k d l))

  still : (item : Candidate) → IsHeardBy true before item → IsHeardBy true now item
  still item (inl h) = inl (first_heard now item
      (heard_still (take 8 before) (take 8 now) positions eight b.first item (heard_first before item h)))
  still item (inr h) = inr (b.others.still item h)

  whole : (item : Candidate) → IsHeardBy true now item → IsHeardBy true before item ⊎ Contains items item
  whole item (inl h) =
      ⊎_elim (λ (was : IsHeardOnRing (take 8 before) item). inl (inl (first_heard before item was)))
      (λ (new : Contains eight item). inr (Contains-append_left eight added item new))
      (known_or_new (take 8 before) (take 8 now) positions eight b.first item (heard_first now item h))
  whole item (inr h) =
      ⊎_elim (λ (was : IsAddedIn (lane_of before 8) item). inl (inr was))
      (λ (new : Contains added item). inr (Contains-append_right eight added item new))
      (b.others.whole item h)

  apart : AllPairs (λ item later. standing item ≢ standing later) items
  apart = AllPairs-append (λ item later. standing item ≢ standing later) eight added
      (λ i j d ij jl same. let lt = b.first.heard.order i j d ij jl in omega arith) b.others.apart
      (λ i j d il jl same.
      let low = (b.first.heard.each i d il).0.offset in
      let high = (b.others.lanes j d jl).0 in
      let most = (b.others.lanes j d jl).1 in
      omega arith)

  -- none of the items stands as one that was heard before
  other_eight : (k : ℕ) (d : Candidate) → k < length eight → (old : Candidate) → IsHeardBy true before old
      → standing old ≢ standing (get_or eight k d)
  other_eight k d l old (inl h) =
      stands_apart (take 8 before) (take 8 now) positions eight b.first k d l old (heard_first before old h)
  other_eight k d l old (inr h) = λ same.
      let low = (b.first.heard.each k d l).0.offset in
      let lane = added_lane (lane_of before 8) old h in
      let high = lane.0 in
      let most = lane.1 in
      omega arith

  other_added : (k : ℕ) (d : Candidate) → k < length added → (old : Candidate) → IsHeardBy true before old
      → standing old ≢ standing (get_or added k d)
  other_added k d l old (inl h) = λ same.
      let low = h.offset in
      let high = (b.others.lanes k d l).0 in
      let most = (b.others.lanes k d l).1 in
      omega arith
  other_added k d l old (inr h) = b.others.other k d l old h

  abbrev pub fold_items : List Candidate → List Candidate
  fold_items done = fold (λ ordered item. place item ordered) done items

  pub heard_by_all : (candidates : List Candidate) → AreHeardBy true before candidates
      → AreHeardBy true now (fold_items candidates)
  heard_by_all candidates are =
      let D : Candidate → Type 0 = λ item. All (λ old. standing old ≢ standing item) candidates in
      record {
        each = all_more (IsHeardBy true now) candidates items
            (λ k d l. still (get_or candidates k d) (are.each k d l)) each;
        whole = λ item h. contains_more candidates items item (⊎_elim
            (λ (was : IsHeardBy true before item).
            Contains-append_left candidates items item (are.whole item was))
            (λ (new : Contains items item). Contains-append_right candidates items item new) (whole item h));
        order = strictly_more candidates items are.order apart (All-append D eight added
            (λ k d l j e jl. other_eight k d l (get_or candidates j e) (are.each j e jl))
            (λ k d l j e jl. other_added k d l (get_or candidates j e) (are.each j e jl)));
      }

  all_late : All (λ item. settled_position true before ≤ item.end) items
  all_late = All-append (λ item. settled_position true before ≤ item.end) eight added
      (λ k d l. let h = late (take 8 before) (take 8 now) positions eight b.first k d l in omega arith)
      (λ k d l. let h = b.others.late k d l in omega arith)

  all_small : All (λ item. item.offset < 256) items
  all_small k d l = lane_below now (get_or items k d) (each k d l)

  given_stays : (candidates : List Candidate) → IsInOrder candidates
      → below (settled_position true before) (merged (fold_items candidates))
      ≡ below (settled_position true before) (merged candidates)
  given_stays candidates order = below_more (settled_position true before) candidates items order all_small all_late

  settled_rises : settled_position true before ≤ settled_position true now
  settled_rises =
      let first = least_rises (take 8 before) (take 8 now) positions eight b.first in
      let others = b.others.forward in
      omega arith

-- ---- the marks, and the settled position

fold_min_many : (a b n : ℕ) → fold min a (replicate (suc n) b) ≡ min a b
fold_min_many a b zero = refl
fold_min_many a b (suc n) = ap (λ m. fold min m (replicate n b)) (let e : min (min a b) b ≡ min a b = omega arith in e)
    ∙ fold_min_many a b n

least_of_marks : (positions : List ℕ) (following : ℕ) → least (positions ++ replicate 18 following)
    ≡ min (least positions) following
least_of_marks positions following =
    fold-append min (2 ^ 64 - 1) positions (replicate 18 following) ∙ fold_min_many (least positions) following 17

module _ (before now : List (List Got)) (positions : List ℕ) (position : ℕ) (eight added ready : List Candidate)
    (b : BringsByAll before now positions position eight added)
    (was put marked after : HeldMerger) (h : HasMergedBy true was before)
    (puts_more : (puts given : List Candidate) → MergerStandsFor was puts given
    → MergerStandsFor put ((puts ++ eight) ++ added) given)
    (marks_more : (puts given : List Candidate) → MergerStandsFor put puts given → MergerStandsFor marked puts given)
  where
    candidates : List Candidate
    candidates = fold_items before now positions position eight added b h.candidates

    given : List Candidate
    given = below (settled_position true before) (merged h.candidates)

    puts : List Candidate
    puts = (h.puts ++ eight) ++ added

    all : in_order puts ≡ candidates
    unfolding candidates puts
    all =
        let step : List Candidate → Candidate → List Candidate = λ ordered item. place item ordered in
        fold-append step [] (h.puts ++ eight) added
        ∙ ap (λ done. fold step done added) (fold-append step [] h.puts eight
        ∙ ap (λ done. fold step done eight) h.order)
        ∙ sym (fold-append step h.candidates eight added)

    are : AreHeardBy true now candidates
    unfolding candidates
    are = heard_by_all before now positions position eight added b h.candidates h.are

    stands : MergerStandsFor marked puts given
    unfolding given puts
    stands = marks_more ((h.puts ++ eight) ++ added) (below (settled_position true before) (merged h.candidates))
        (puts_more h.puts (below (settled_position true before) (merged h.candidates)) h.so_far)

    given_is : given ≡ below (settled_position true before) (merged candidates)
    unfolding given candidates
    given_is = sym (given_stays before now positions position eight added b h.candidates
        (in_order_heard before h.candidates h.are))

    rises : IsNonDecreasingBy (λ y. y.end) (merged candidates)
    rises = merged-rising (λ y. y.end) [] candidates (rising_ends candidates (in_order_heard now candidates are))

    settled_is : marked.marks ≡ positions ++ replicate 18 (position - 32)
        → least marked.marks ≡ settled_position true now
    settled_is marks =
        ap least marks ∙ least_of_marks positions (position - 32)
        ∙ ap (λ ps. min (least ps) (position - 32)) b.first.stand
        ∙ ap (λ p. min (least_position (take 8 now)) (p - 32)) b.stand

    pub merges_all : marked.marks ≡ positions ++ replicate 18 (position - 32) → after.marks ≡ marked.marks
        → ((puts given : List Candidate) → MergerStandsFor marked puts given
        → MergerStandsFor after puts (given ++ ready)
        × (given ++ ready ≡ below (least marked.marks) (merged (in_order puts))))
        → HasMergedBy true after now
        × AreMergedBy true (settled_position true before) (settled_position true now) now ready
    merges_all marks same takes =
        let step = takes puts given stands in
        let total : given ++ ready ≡ below (settled_position true now) (merged candidates) =
        step.1 ∙ ap (λ m. below m (merged (in_order puts))) (settled_is marks)
        ∙ ap (λ c. below (settled_position true now) (merged c)) all in (
          record {
            marks = same ∙ marks ∙ ap (λ ps. ps ++ replicate 18 (position - 32)) b.first.stand
                ∙ ap (λ p. lane_positions (take 8 now) ++ replicate 18 (p - 32)) b.stand;
            puts = puts;
            candidates = candidates;
            are = are;
            order = all;
            so_far = subst (MergerStandsFor after puts) total step.0;
          },
          record {
            candidates = candidates;
            are = are;
            is = next_is (settled_position true before) (settled_position true now) given ready (merged candidates)
                (settled_rises before now positions position eight added b) rises given_is total;
          },
        )

    pub merges_all_rest : ((puts given : List Candidate) → MergerStandsFor marked puts given
        → given ++ ready ≡ merged (in_order puts)) → AreRestBy true (settled_position true before) now ready
    merges_all_rest takes =
        let zs : List Candidate = merged candidates in
        let total : given ++ ready ≡ zs = takes puts given stands ∙ ap merged all in
        record {
          candidates = candidates;
          are = are;
          is = append_cancel_left (below (settled_position true before) zs) ready
              (not_below (settled_position true before) zs)
              (ap (λ g. g ++ ready) (sym given_is) ∙ total
              ∙ sym (below_then_rest (settled_position true before) zs rises));
        }
