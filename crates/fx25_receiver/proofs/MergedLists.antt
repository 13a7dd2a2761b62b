-- What is merged of samples: there is one list of it, its ends do not fall, and more samples only add to it.
use Rattle.fx25_receiver.proofs.Common.{◌≡◌, ℕ, ◌<◌, ◌≤◌, ℤ, List, [], ◌∷◌, ◌++◌, true, false, length, get_or, ap}
use Rattle.fx25_receiver.proofs.Common.{sym, ◌∙◌, subst, refl, arith, inl, inr, cases_eq, All, All-cons}
use Rattle.fx25_receiver.proofs.Common.{All-head, All-nil, All-tail, All-weaker, AreHeard, AreMerged, Heard, IsHeard}
use Rattle.fx25_receiver.proofs.Common.{list_any, if◌then◌else◌, merged, merged_after, repeats}
use Rattle.std.specs.List.Sorted.{IsNonDecreasingBy}
use Rattle.frame_merge.proofs.Ordering.{rising_cons, rising_head, rising_tail}
use Rattle.fx25_receiver.proofs.HeardLemmas.{end_within, nothing_heard, tag_below}
use Rattle.fx25_receiver.proofs.HeardLists.{one_list, some_list, with_more}
use Rattle.fx25_receiver.proofs.MergingLemmas.{merged_after-append}

-- what is true of each item is true of each that remains
pub All-merged : (P : Heard → Type 0) (earlier xs : List Heard) → All P xs → All P (merged_after earlier xs)
All-merged P earlier [] h = All-nil P
All-merged P earlier (x ∷ xs) h =
    let rest = All-merged P (earlier ++ x ∷ []) xs (All-tail P x xs h) in
    elim (list_any (repeats x) earlier)
    as (λ t. All P (if t then merged_after (earlier ++ x ∷ []) xs else x ∷ merged_after (earlier ++ x ∷ []) xs))
    [ true ↦ rest | false ↦ All-cons P x _ (All-head P x xs h) rest ]

-- what remains of a list in order is in order
pub merged-rising : (n : Heard → ℕ) (earlier xs : List Heard) → IsNonDecreasingBy n xs
    → IsNonDecreasingBy n (merged_after earlier xs)
merged-rising n earlier [] h = h
merged-rising n earlier (x ∷ xs) h =
    let rest = merged-rising n (earlier ++ x ∷ []) xs (rising_tail n x xs h) in
    elim (list_any (repeats x) earlier)
    as (λ t. IsNonDecreasingBy n (if t then merged_after (earlier ++ x ∷ []) xs
    else x ∷ merged_after (earlier ++ x ∷ []) xs)) [
      | true ↦ rest
      | false ↦ rising_cons n x _ (All-merged (λ y. n x ≤ n y) (earlier ++ x ∷ []) xs
          (rising_head n x xs h)) rest
    ]

-- the ends of what is heard do not fall
pub heard_rises : (x : List ℤ) (items : List Heard) → AreHeard x items → IsNonDecreasingBy (λ item. item.end) items
heard_rises x items are i j d below within = elim (cases_eq i j) [
  | inl same ↦ let alike : (get_or items i d).end ≡ (get_or items j d).end = ap (λ k. (get_or items k d).end) same in
      omega arith
  | inr other ↦
      let later = are.order i j d (omega arith) within in
      let first = are.each i d (omega arith) in
      let second = are.each j d within in
      let lane = first.lane in
      let tag = tag_below x (get_or items i d) first in
      let lane_of = second.lane in
      let tag_of = tag_below x (get_or items j d) second in
      omega arith
]

pub none_merged : AreMerged [] []
none_merged = record { heard = []; are = nothing_heard; is = refl }

pub some_merged : (x : List ℤ) → (items : List Heard) × AreMerged x items
some_merged x = let found = some_list x in
    (merged found.0, record { heard = found.0; are = found.1; is = refl })

pub one_merged : (x : List ℤ) (items others : List Heard) → AreMerged x items → AreMerged x others → items ≡ others
one_merged x items others a b = a.is ∙ ap merged (one_list x a.heard b.heard a.are b.are) ∙ sym b.is

pub merged_rises : (x : List ℤ) (items : List Heard) → AreMerged x items → IsNonDecreasingBy (λ item. item.end) items
merged_rises x items h =
    subst (IsNonDecreasingBy (λ item. item.end)) (sym h.is)
    (merged-rising (λ item. item.end) [] h.heard (heard_rises x h.heard h.are))

pub merged_within : (x : List ℤ) (items : List Heard) → AreMerged x items → All (λ item. item.end ≤ length x) items
merged_within x items h =
    subst (All (λ item. item.end ≤ length x)) (sym h.is)
    (All-merged (λ item. item.end ≤ length x) [] h.heard
    (All-weaker (IsHeard x) (λ item. item.end ≤ length x) (end_within x) h.heard h.are.each))

-- with more samples, what was merged stays, and what is added ends after the first ones
pub merged_more : (x y : List ℤ) (items whole : List Heard) → AreMerged x items → AreMerged (x ++ y) whole
    → (more : List Heard) × (whole ≡ items ++ more) × All (λ item. length x < item.end) more
merged_more x y items whole h k =
    let added = with_more x y h.heard h.are in
    let all : k.heard ≡ h.heard ++ added.0 = one_list (x ++ y) k.heard (h.heard ++ added.0) k.are added.1 in (
      merged_after h.heard added.0,
      k.is ∙ ap merged all ∙ merged_after-append [] h.heard added.0
          ∙ ap (λ t. t ++ merged_after h.heard added.0) (sym h.is),
      All-merged (λ item. length x < item.end) h.heard added.0 added.2,
    )
