-- Of two lists of candidates that agree in what ends below a position, what is merged agrees below it.
use Rattle.std.proofs.Common.{◌≡◌, ℕ, ◌<◌, ◌≤◌, List, [], ◌++◌, length, get_or, ap, sym, ◌∙◌, arith}
use Rattle.std.specs.Prelude.{All, Contains, true, nat_le, nat_lt}
use Rattle.std.specs.List.{AllPairs}
use Rattle.std.specs.List.Sorted.{IsNonDecreasingBy}
use Rattle.std.proofs.lemmas.Bool.{leb-true, ltb-true}
use Rattle.std.proofs.lemmas.List.{append_cancel_left}
use Rattle.std.proofs.lemmas.List.Elements.{All-filter, All-weaker, filter_passes}
use Rattle.std.proofs.lemmas.List.Kept.{AllPairs-filter}
use Rattle.frame_merge.specs.declared.candidate.Candidate.{Candidate}
use Rattle.frame_merge.specs.Merged.{below, between, merged, not_below}
use Rattle.frame_merge.specs.Order.{standing}
use Rattle.frame_merge.proofs.Forgetting.{below_then_rest}
use Rattle.frame_merge.proofs.Merging.{below_between, merged-rising}
use Rattle.frame_merge.proofs.Ordering.{rising_ends}
use Rattle.slicer_bank.proofs.MergedLemmas.{below_more, contains_passing}
use Rattle.slicer_bank.proofs.MergingLemmas.{rising_strictly}
use Rattle.slicer_bank.proofs.OneList.{same_list}

-- the items are all of a kind, each once, by end and then lane
pub record AreAllOf (P : Candidate → Type 0) (items : List Candidate) : Type 0 where
  pub each : All P items
  pub whole : (item : Candidate) → P item → Contains items item
  pub order : AllPairs (λ item later. standing item < standing later) items
  pub small : (item : Candidate) → P item → item.offset < 256

-- there is one such list
pub one_list : (P : Candidate → Type 0) (items all : List Candidate) → AreAllOf P items → AreAllOf P all → items ≡ all
one_list P items all a b = same_list items all a.order b.order (λ k d l. b.whole (get_or items k d) (a.each k d l))
    (λ k d l. a.whole (get_or all k d) (b.each k d l))

rising_all : (P : Candidate → Type 0) (items : List Candidate) → AreAllOf P items
    → IsNonDecreasingBy (λ item. item.end) items
rising_all P items are = rising_ends items (record {
  rising = rising_strictly items are.order;
  offsets = λ k d l. are.small (get_or items k d) (are.each k d l);
})

pub rising_merged : (P : Candidate → Type 0) (items : List Candidate) → AreAllOf P items
    → IsNonDecreasingBy (λ item. item.end) (merged items)
rising_merged P items are = merged-rising (λ item. item.end) [] items (rising_all P items are)

-- what ends below a position is merged by itself
below_merged : (to : ℕ) (items : List Candidate) → IsNonDecreasingBy (λ item. item.end) items
    → below to (merged items) ≡ below to (merged (below to items))
below_merged to items rises =
    ap (λ xs. below to (merged xs)) (sym (below_then_rest to items rises))
    ∙ below_more to (below to items) (not_below to items)
    (All-weaker (λ (item : Candidate). nat_le to item.end ≡ true) (λ item. to ≤ item.end)
    (λ item passes. leb-true to item.end passes) (not_below to items)
    (filter_passes (λ (item : Candidate). nat_le to item.end) items))

module _ (P Q : Candidate → Type 0) (items all : List Candidate) (are : AreAllOf Q items) (every : AreAllOf P all)
    (still : (item : Candidate) → Q item → P item) where
  below_same : (to : ℕ) → ((item : Candidate) → P item → item.end < to → Q item) → below to items ≡ below to all
  below_same to known = same_list (below to items) (below to all)
      (AllPairs-filter (λ item later. standing item < standing later) (λ item. nat_lt item.end to) items are.order)
      (AllPairs-filter (λ item later. standing item < standing later) (λ item. nat_lt item.end to) all every.order)
      (λ k d l. contains_passing (λ item. nat_lt item.end to) all (get_or (below to items) k d)
      (every.whole (get_or (below to items) k d) (still (get_or (below to items) k d)
      (All-filter (λ item. nat_lt item.end to) Q items are.each k d l)))
      (filter_passes (λ (item : Candidate). nat_lt item.end to) items k d l))
      (λ k d l. contains_passing (λ item. nat_lt item.end to) items (get_or (below to all) k d)
      (are.whole (get_or (below to all) k d) (known (get_or (below to all) k d)
      (All-filter (λ item. nat_lt item.end to) P all every.each k d l)
      (ltb-true (get_or (below to all) k d).end to
      (filter_passes (λ (item : Candidate). nat_lt item.end to) all k d l))))
      (filter_passes (λ (item : Candidate). nat_lt item.end to) all k d l))

  merged_same : (to : ℕ) → ((item : Candidate) → P item → item.end < to → Q item)
      → below to (merged items) ≡ below to (merged all)
  merged_same to known =
      below_merged to items (rising_all Q items are)
      ∙ ap (λ xs. below to (merged xs)) (below_same to known)
      ∙ sym (below_merged to all (rising_all P all every))

  pub between_same : (from to : ℕ) → from ≤ to → ((item : Candidate) → P item → item.end < to → Q item)
      → between from to (merged items) ≡ between from to (merged all)
  between_same from to le known =
      append_cancel_left (below from (merged all)) (between from to (merged items)) (between from to (merged all))
      (ap (λ xs. xs ++ between from to (merged items))
      (sym (merged_same from (λ item h before. known item h (omega arith))))
      ∙ below_between from to (merged items) le (rising_merged Q items are)
      ∙ merged_same to known
      ∙ sym (below_between from to (merged all) le (rising_merged P all every)))
