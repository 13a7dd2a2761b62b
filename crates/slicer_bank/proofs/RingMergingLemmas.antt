-- What eight lanes that read a ring hear, merged turn by turn.
use Rattle.slicer_bank.proofs.Common.{◌≡◌, ℕ, ◌<◌, ◌≤◌, List, [], ◌∷◌, ◌++◌, refl, ap, sym, ◌∙◌, arith, subst}
use Rattle.slicer_bank.proofs.Common.{replicate, get_or, zero, suc, ◌-◌, ◌^◌, inl, inr, ◌⊎◌, ⊎_elim, ◌≢◌, length, fold}
use Rattle.slicer_bank.proofs.Common.{All, Contains, IsNonDecreasingBy, cases_lt, fold-append, get_or-map, length-map}
use Rattle.slicer_bank.proofs.Common.{append_cancel_left, All-nil, Contains-append_left, Contains-append_right}
use Rattle.slicer_bank.proofs.Common.{Candidate, least, place, in_order, standing, IsInOrder, merged, below, not_below}
use Rattle.slicer_bank.proofs.Common.{rising_ends, merged-rising, below_then_rest, Got, position_after, IsHeardIn}
use Rattle.slicer_bank.proofs.Common.{IsHeardOnRing, lane_of, lane_positions, Leads, BringsOnRing}
use Rattle.std.proofs.Common.{le_refl}
use Rattle.std.specs.Prelude.{min}
use Rattle.std.proofs.lemmas.List.{get_or-replicate}
use Rattle.frame_merge.specs.Held.{Held as HeldMerger, StandsFor as MergerStandsFor}
use Rattle.frame_merge.proofs.Taking.{least-each, le-least}
use Rattle.slicer_bank.specs.Stretches.{stretches}
use Rattle.slicer_bank.specs.HeardOnRing.{AreHeardOnRing, AreMergedOnRing, AreRestOnRing, least_position}
use Rattle.slicer_bank.specs.RingMerging.{HasMerged}
use Rattle.slicer_bank.proofs.StretchLemmas.{InStretch, none_ends, heard_longer, heard_shorter, heard_within, leads_up}
use Rattle.slicer_bank.proofs.StretchLemmas.{leads_position, leads_split, leads_join}
use Rattle.slicer_bank.proofs.MergedLemmas.{next_is}
use Rattle.slicer_bank.proofs.MergingLemmas.{rising_strictly}
use Rattle.slicer_bank.proofs.OrderingLemmas.{strictly_more, contains_more, all_more, below_more}

-- the lanes of readers that have read nothing
abbrev pub no_answers : List (List Got)
no_answers = replicate 8 []

-- nothing is heard in no answers
none_heard : (item : Candidate) → IsHeardIn [] item → ⊥
none_heard item h = only h.is where
  only : Contains (stretches []) h.stretch → ⊥
  only (zero, l, e) = none_ends 0 item (subst (λ s. InStretch s item) (sym e) (h.index, h.ends))
  only (suc k, l, e) = absurd (omega arith)

pub none_on_ring : (item : Candidate) → IsHeardOnRing no_answers item → ⊥
none_on_ring item h =
    let within = h.offset in
    let none : lane_of no_answers item.offset ≡ [] = get_or-replicate 8 item.offset [] [] within in
    none_heard item (subst (λ answers. IsHeardIn answers item) none h.heard)

pub nothing_merged : (merger : HeldMerger) → merger.marks ≡ replicate 8 0 → MergerStandsFor merger [] []
    → HasMerged merger no_answers
nothing_merged merger marks stands = record {
  marks = marks;
  puts = [];
  candidates = [];
  are = record {
    each = All-nil (IsHeardOnRing no_answers);
    whole = λ item h. absurd (none_on_ring item h);
    order = λ i j d ij jl. absurd (omega arith);
  };
  order = refl;
  so_far = stands;
}

-- the least of marks is no more than the greatest position
fold_min_most : (marks : List ℕ) → least marks ≤ 2 ^ 64 - 1
fold_min_most marks = go (2 ^ 64 - 1) marks
  where
    go : (a : ℕ) (xs : List ℕ) → fold min a xs ≤ a
    go a [] = le_refl a
    go a (x ∷ xs) = let r = go (min a x) xs in omega arith

-- ---- one turn more

module _ (before now : List (List Got)) (positions : List ℕ) (items : List Candidate)
    (b : BringsOnRing before now positions items) where
  -- each lane's answers led somewhere before, and lead on
  led : (k : ℕ) → k < 8 → (middle : ℕ) × Leads 0 (lane_of before k) middle
      × ((to : ℕ) × Leads middle (lane_of b.reads k) to)
  led k l =
      let lead = b.lead k l in
      let parts = leads_split 0 (lane_of before k) (lane_of b.reads k) lead.0
      (subst (λ a. Leads 0 a lead.0) (b.longer.each k l) lead.1) in
      (parts.0, parts.1, (lead.0, parts.2))

  pub heard_still : (item : Candidate) → IsHeardOnRing before item → IsHeardOnRing now item
  heard_still item h = record {
    offset = h.offset;
    heard = subst (λ a. IsHeardIn a item) (sym (b.longer.each item.offset h.offset))
        (heard_longer (lane_of before item.offset) (lane_of b.reads item.offset) item h.heard);
  }

  -- where an item stands to the position of its lane before
  was_heard : (item : Candidate) (l : item.offset < 8) → IsHeardOnRing now item → item.end ≤ (led item.offset l).0
      → IsHeardOnRing before item
  unfolding led
  was_heard item l h le =
      let k = led item.offset l in
      record {
        offset = l;
        heard = heard_shorter (lane_of before item.offset) (lane_of b.reads item.offset) k.0 k.2.0 item k.1 k.2.1
            (subst (λ a. IsHeardIn a item) (b.longer.each item.offset l) h.heard) le;
      }

  up_to : (item : Candidate) (h : IsHeardOnRing before item) → item.end ≤ (led item.offset h.offset).0
  up_to item h = heard_within (lane_of before item.offset) (led item.offset h.offset).0 item
      (led item.offset h.offset).1 h.heard

  past : (item : Candidate) (l : item.offset < 8) → IsHeardOnRing now item → (¬ IsHeardOnRing before item)
      → (led item.offset l).0 < item.end
  past item l h not = elim (cases_lt (led item.offset l).0 item.end)
      [ inl lt ↦ lt | inr le ↦ absurd (not (was_heard item l h le)) ]

  abbrev pub fold_items : List Candidate → List Candidate
  fold_items done = fold (λ ordered item. place item ordered) done items

  same_end : (k j : ℕ) (l : k < 8) (m : j < 8) → k ≡ j → (led k l).0 ≡ (led j m).0
  same_end k j l m e =
      let p = leads_position (lane_of before k) (led k l).0 (led k l).1 in
      let q = leads_position (lane_of before j) (led j m).0 (led j m).1 in
      sym p ∙ ap (λ i. position_after (lane_of before i)) e ∙ q

  -- what is heard now was heard before, or is one of the items
  pub known_or_new : (item : Candidate) → IsHeardOnRing now item → IsHeardOnRing before item ⊎ Contains items item
  known_or_new item h = elim (cases_lt (led item.offset h.offset).0 item.end) [
    | inl lt ↦ inr (b.heard.whole item h (λ was. let le = up_to item was in let e =
        same_end item.offset item.offset was.offset h.offset refl in absurd (omega arith)))
    | inr le ↦ inl (was_heard item h.offset h le)
  ]

  -- none of the items stands as one that was heard before
  pub stands_apart : (k : ℕ) (d : Candidate) → k < length items → (old : Candidate) → IsHeardOnRing before old
      → standing old ≢ standing (get_or items k d)
  stands_apart k d l old was =
      let new = b.heard.each k d l in
      let item : Candidate = get_or items k d in
      let small = new.0.offset in
      let small_old = was.offset in
      let far : (led item.offset new.0.offset).0 < item.end = past item new.0.offset new.0 new.1 in
      let near : old.end ≤ (led old.offset was.offset).0 = up_to old was in
      λ e.
      let same : old.offset ≡ item.offset = omega arith in
      let here : (led old.offset was.offset).0 ≡ (led item.offset new.0.offset).0 =
      same_end old.offset item.offset was.offset new.0.offset same in
      omega arith

  pub heard_by_all : (candidates : List Candidate) → AreHeardOnRing before candidates
      → AreHeardOnRing now (fold_items candidates)
  heard_by_all candidates are = record {
    each = all_more (IsHeardOnRing now) candidates items (λ k d l. heard_still (get_or candidates k d) (are.each k d l))
        (λ k d l. (b.heard.each k d l).0);
    whole = λ item h. contains_more candidates items item (⊎_elim
        (λ (was : IsHeardOnRing before item). Contains-append_left candidates items item (are.whole item was))
        (λ (new : Contains items item). Contains-append_right candidates items item new) (known_or_new item h));
    order = strictly_more candidates items are.order (λ i j d ij jl. let lt = b.heard.order i j d ij jl in
        λ e. omega arith)
        (λ i d il j c jl. stands_apart i d il (get_or candidates j c) (are.each j c jl));
  }

  least_below : (k : ℕ) (l : k < 8) → least_position before ≤ (led k l).0
  least_below k l =
      let eight = b.longer.eight_before in
      let n = length-map before position_after in
      let at : get_or (lane_positions before) k 0 ≡ (led k l).0 = get_or-map position_after before k [] 0 (omega arith)
      ∙ leads_position (lane_of before k) (led k l).0 (led k l).1 in
      let le : least_position before ≤ get_or (lane_positions before) k 0 =
      least-each (lane_positions before) k 0 (omega arith) in
      omega arith

  pub late : All (λ item. least_position before ≤ item.end) items
  late k d l =
      let h = b.heard.each k d l in
      let item : Candidate = get_or items k d in
      let lt : (led item.offset h.0.offset).0 < item.end = past item h.0.offset h.0 h.1 in
      let le = least_below item.offset h.0.offset in
      omega arith

  pub small : All (λ item. item.offset < 256) items
  small k d l = let h = b.heard.each k d l in let o = h.0.offset in omega arith

  -- what is merged below the least position before stays as it is
  given_stays : (candidates : List Candidate) → IsInOrder candidates
      → below (least_position before) (merged (fold_items candidates))
      ≡ below (least_position before) (merged candidates)
  given_stays candidates order = below_more (least_position before) candidates items order small late

  -- the least position does not fall
  pub least_rises : least_position before ≤ least_position now
  least_rises =
      let eight = b.longer.eight_now in
      let n = length-map now position_after in
      le-least (least_position before) (lane_positions now) (fold_min_most (lane_positions before))
      (λ k d l.
      let in8 : k < 8 = omega arith in
      let le = least_below k in8 in
      let up = leads_up (led k in8).0 (lane_of b.reads k) (led k in8).2.0 (led k in8).2.1 in
      let lead = b.lead k in8 in
      let at : get_or (lane_positions now) k d ≡ (led k in8).2.0
      = get_or-map position_after now k [] d (omega arith)
      ∙ leads_position (lane_of now k) (led k in8).2.0 (subst (λ a. Leads 0 a (led k in8).2.0)
      (sym (b.longer.each k in8)) (leads_join 0 (lane_of before k) (lane_of b.reads k) (led k in8).0 (led k in8).2.0
      (led k in8).1 (led k in8).2.1)) in
      omega arith)

-- candidates of lanes are in order
in_order_heard : (lanes : List (List Got)) (candidates : List Candidate) → AreHeardOnRing lanes candidates
    → IsInOrder candidates
in_order_heard lanes candidates are = record {
  rising = rising_strictly candidates are.order;
  offsets = λ k d l. let h = are.each k d l in let o = h.offset in omega arith;
}

module _ (before now : List (List Got)) (positions : List ℕ) (items ready : List Candidate)
    (b : BringsOnRing before now positions items)
    (was put marked after : HeldMerger) (h : HasMerged was before)
    (puts_more : (puts given : List Candidate) → MergerStandsFor was puts given
    → MergerStandsFor put (puts ++ items) given)
    (marks_more : (puts given : List Candidate) → MergerStandsFor put puts given
    → MergerStandsFor marked puts given) where
  candidates : List Candidate
  candidates = fold_items before now positions items b h.candidates

  given : List Candidate
  given = below (least_position before) (merged h.candidates)

  all : in_order (h.puts ++ items) ≡ candidates
  unfolding candidates
  all = fold-append (λ ordered item. place item ordered) [] h.puts items
      ∙ ap (λ done. fold (λ ordered item. place item ordered) done items) h.order

  are : AreHeardOnRing now candidates
  unfolding candidates
  are = heard_by_all before now positions items b h.candidates h.are

  stands : MergerStandsFor marked (h.puts ++ items) given
  unfolding given
  stands = marks_more (h.puts ++ items) given (puts_more h.puts given h.so_far)

  given_is : given ≡ below (least_position before) (merged candidates)
  unfolding given candidates
  given_is = sym (given_stays before now positions items b h.candidates (in_order_heard before h.candidates h.are))

  rises : IsNonDecreasingBy (λ y. y.end) (merged candidates)
  rises = merged-rising (λ y. y.end) [] candidates (rising_ends candidates (in_order_heard now candidates are))

  pub merges_turn : marked.marks ≡ positions → after.marks ≡ marked.marks
      → ((puts given : List Candidate) → MergerStandsFor marked puts given
      → MergerStandsFor after puts (given ++ ready)
      × (given ++ ready ≡ below (least marked.marks) (merged (in_order puts))))
      → HasMerged after now × AreMergedOnRing (least_position before) (least_position now) now ready
  merges_turn marks same takes =
      let step = takes (h.puts ++ items) given stands in
      let at : marked.marks ≡ lane_positions now = marks ∙ b.stand in
      let total : given ++ ready ≡ below (least_position now) (merged candidates) = step.1
      ∙ ap (λ m. below (least m) (merged (in_order (h.puts ++ items)))) at
      ∙ ap (λ c. below (least_position now) (merged c)) all in (
        record {
          marks = same ∙ at;
          puts = h.puts ++ items;
          candidates = candidates;
          are = are;
          order = all;
          so_far = subst (MergerStandsFor after (h.puts ++ items)) total step.0;
        },
        record {
          candidates = candidates;
          are = are;
          is = next_is (least_position before) (least_position now) given ready (merged candidates)
              (least_rises before now positions items b) rises given_is total;
        },
      )

  pub merges_rest : ((puts given : List Candidate) → MergerStandsFor marked puts given
      → given ++ ready ≡ merged (in_order puts)) → AreRestOnRing (least_position before) now ready
  merges_rest takes =
      let zs : List Candidate = merged candidates in
      let total : given ++ ready ≡ zs = takes (h.puts ++ items) given stands ∙ ap merged all in
      record {
        candidates = candidates;
        are = are;
        is = append_cancel_left (below (least_position before) zs) ready (not_below (least_position before) zs)
            (ap (λ g. g ++ ready) (sym given_is) ∙ total ∙ sym (below_then_rest (least_position before) zs rises));
      }
