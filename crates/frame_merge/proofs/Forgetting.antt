-- What a merger may forget: candidates that end more than 15 samples before the position below which all was given.
use Rattle.frame_merge.proofs.Common.{◌≡◌, ℕ, ◌+◌, ◌-◌, ◌<◌, ◌≤◌, List, [], ◌∷◌, ◌++◌, true, false, ◌||◌, ◌&&◌, cond}
use Rattle.frame_merge.proofs.Common.{refl, ap, sym, ◌∙◌, arith, inl, inr, get_or, nat_lt, nat_le, if◌then◌else◌, All}
use Rattle.frame_merge.proofs.Common.{list_any, IsNonDecreasingBy, bytes_eq, and-false, cases_lt, lt-ltb, le-leb}
use Rattle.frame_merge.proofs.Common.{lt-leb, append-nil, All-cons, All-head, All-tail, All-weaker, filter-append}
use Rattle.frame_merge.proofs.Common.{filter_passes, list_any-append, list_any_none, Candidate, standing, place}
use Rattle.frame_merge.proofs.Common.{IsInOrder, repeats, merged, merged_after, below, not_below, between}
use Rattle.std.proofs.Common.{append_assoc}
use Rattle.std.proofs.lemmas.Bool.{ltb-true}
use Rattle.std.proofs.lemmas.List.Elements.{All-filter}
use Rattle.std.proofs.lemmas.List.Kept.{IsNonDecreasingBy-filter}
use Rattle.frame_merge.proofs.Ordering.{place_here, place_following, rising_tail, rising_head, rising_ends}
use Rattle.frame_merge.proofs.Merging.{merged_after-append, All-merged, below_none}

-- a part of a list in order is in order
pub not_below-in_order : (position : ℕ) (xs : List Candidate) → IsInOrder xs → IsInOrder (not_below position xs)
not_below-in_order position xs h = record {
  rising = IsNonDecreasingBy-filter standing (λ item. nat_le position item.end) xs h.rising;
  offsets = All-filter (λ item. nat_le position item.end) (λ item. item.offset < 256) xs h.offsets;
}

-- a candidate that ends at or past a position is put into the part that does too
pub not_below-place : (position : ℕ) (item : Candidate) (xs : List Candidate) → position ≤ item.end → item.offset < 256
    → All (λ y. y.offset < 256) xs
    → not_below position (place item xs) ≡ place item (not_below position xs)
not_below-place position item [] le small offsets = ap (λ t. cond t (item ∷ []) []) (le-leb position item.end le)
not_below-place position item (x ∷ xs) le small offsets =
    let x_small : x.offset < 256 = All-head (λ y. y.offset < 256) x xs offsets in
    let passes : nat_le position item.end ≡ true = le-leb position item.end le in
    elim (cases_lt (standing item) (standing x)) [
      | inl lt ↦
          let x_passes : nat_le position x.end ≡ true = le-leb position x.end (omega arith) in
          ap (not_below position) (place_here item x xs lt)
          ∙ ap (λ t. cond t (item ∷ not_below position (x ∷ xs)) (not_below position (x ∷ xs))) passes
          ∙ ap (λ t. item ∷ cond t (x ∷ not_below position xs) (not_below position xs)) x_passes
          ∙ sym (place_here item x (not_below position xs) lt)
          ∙ ap (λ t. place item (cond t (x ∷ not_below position xs) (not_below position xs))) (sym x_passes)
      | inr ge ↦
          let step = not_below-place position item xs le small (All-tail (λ y. y.offset < 256) x xs offsets) in
          ap (not_below position) (place_following item x xs ge)
          ∙ elim (nat_le position x.end)
          as (λ t. cond t (x ∷ not_below position (place item xs)) (not_below position (place item xs))
          ≡ place item (cond t (x ∷ not_below position xs) (not_below position xs)))
          [ true ↦ ap (λ t. x ∷ t) step ∙ sym (place_following item x (not_below position xs) ge) | false ↦ step ]
    ]

-- what is kept at a later position is what would be kept of all
pub not_below-not_below : (was now : ℕ) (xs : List Candidate) → was ≤ now
    → not_below now (not_below was xs) ≡ not_below now xs
not_below-not_below was now [] le = refl
not_below-not_below was now (x ∷ xs) le =
    elim (cases_lt x.end was) [
      | inl lt ↦
          let out : nat_le was x.end ≡ false = lt-leb was x.end lt in
          let out_now : nat_le now x.end ≡ false = lt-leb now x.end (omega arith) in
          ap (λ t. not_below now (cond t (x ∷ not_below was xs) (not_below was xs))) out
          ∙ not_below-not_below was now xs le
          ∙ ap (λ t. cond t (x ∷ not_below now xs) (not_below now xs)) (sym out_now)
      | inr ge ↦
          let stays : nat_le was x.end ≡ true = le-leb was x.end ge in
          ap (λ t. not_below now (cond t (x ∷ not_below was xs) (not_below was xs))) stays
          ∙ ap (λ t. cond (nat_le now x.end) (x ∷ t) t) (not_below-not_below was now xs le)
    ]

-- if all end at or past a position, nothing is left out
not_below_all : (position : ℕ) (xs : List Candidate) → All (λ y. position ≤ y.end) xs → not_below position xs ≡ xs
not_below_all position [] h = refl
not_below_all position (x ∷ xs) h =
    ap (λ t. cond t (x ∷ not_below position xs) (not_below position xs))
    (le-leb position x.end (All-head (λ y. position ≤ y.end) x xs h))
    ∙ ap (λ t. x ∷ t) (not_below_all position xs (All-tail (λ y. position ≤ y.end) x xs h))

-- a list in order is what ends below a position, and then the rest
pub below_then_rest : (position : ℕ) (xs : List Candidate) → IsNonDecreasingBy (λ y. y.end) xs
    → below position xs ++ not_below position xs ≡ xs
below_then_rest position [] h = refl
below_then_rest position (x ∷ xs) h =
    elim (cases_lt x.end position) [
      | inl lt ↦
          let early : nat_lt x.end position ≡ true = lt-ltb x.end position lt in
          let out : nat_le position x.end ≡ false = lt-leb position x.end lt in
          rw (early, out) (ap (λ t. x ∷ t) (below_then_rest position xs (rising_tail (λ y. y.end) x xs h)))
      | inr ge ↦
          let late : All (λ y. position ≤ y.end) (x ∷ xs) = All-cons (λ y. position ≤ y.end) x xs ge
          (All-weaker (λ y. x.end ≤ y.end) (λ y. position ≤ y.end) (λ y k. omega arith) xs
          (rising_head (λ y. y.end) x xs h)) in
          ap (λ t. t ++ not_below position (x ∷ xs)) (below_none position (x ∷ xs) late)
          ∙ not_below_all position (x ∷ xs) late
    ]

-- nothing ends from a position on, if all end below it
between_none : (from to : ℕ) (xs : List Candidate) → All (λ y. y.end < from) xs → between from to xs ≡ []
between_none from to [] h = refl
between_none from to (x ∷ xs) h =
    ap (λ t. cond (t && nat_lt x.end to) (x ∷ between from to xs) (between from to xs))
    (lt-leb from x.end (All-head (λ y. y.end < from) x xs h))
    ∙ between_none from to xs (All-tail (λ y. y.end < from) x xs h)

-- a candidate from a position on repeats none that ends more than 15 samples before it
repeats_none_early : (from : ℕ) (item : Candidate) (early : List Candidate) → from ≤ item.end
    → All (λ y. y.end + 15 < from) early → list_any (repeats item) early ≡ false
repeats_none_early from item early le h = list_any_none (repeats item) early (λ k d l.
    let before = h k d l in
    ap (λ t. bytes_eq (get_or early k d).octets item.octets && t)
    (lt-leb item.end ((get_or early k d).end + 15) (omega arith))
    ∙ and-false (bytes_eq (get_or early k d).octets item.octets))

-- so those that end so early change nothing of the part from that position on
between_without_early : (from to : ℕ) (early earlier xs : List Candidate) → All (λ y. y.end + 15 < from) early
    → between from to (merged_after (early ++ earlier) xs) ≡ between from to (merged_after earlier xs)
between_without_early from to early earlier [] h = refl
between_without_early from to early earlier (x ∷ xs) h =
    let step : between from to (merged_after ((early ++ earlier) ++ x ∷ []) xs)
    ≡ between from to (merged_after (earlier ++ x ∷ []) xs)
    = ap (λ t. between from to (merged_after t xs)) (append_assoc early earlier (x ∷ []))
    ∙ between_without_early from to early (earlier ++ x ∷ []) xs h in
    elim (cases_lt x.end from) [
      | inl lt ↦ left_out x xs (early ++ earlier) lt ∙ step ∙ sym (left_out x xs earlier lt)
      | inr ge ↦
          let same : list_any (repeats x) (early ++ earlier) ≡ list_any (repeats x) earlier
          = list_any-append (repeats x) early earlier ∙ ap (λ t. t || list_any (repeats x) earlier)
          (repeats_none_early from x early ge h) in
          ap (λ t. between from to (if t then merged_after ((early ++ earlier) ++ x ∷ []) xs
          else x ∷ merged_after ((early ++ earlier) ++ x ∷ []) xs)) same
          ∙ elim (list_any (repeats x) earlier)
          as (λ t. between from to (if t then merged_after ((early ++ earlier) ++ x ∷ []) xs
          else x ∷ merged_after ((early ++ earlier) ++ x ∷ []) xs)
          ≡ between from to (if t then merged_after (earlier ++ x ∷ []) xs
          else x ∷ merged_after (earlier ++ x ∷ []) xs))
          [ true ↦ step | false ↦ ap (λ t. cond (nat_le from x.end && nat_lt x.end to) (x ∷ t) t) step ]
    ]
  where
    left_out : (x : Candidate) (xs before : List Candidate) → x.end < from
        → between from to (merged_after before (x ∷ xs)) ≡ between from to (merged_after (before ++ x ∷ []) xs)
    left_out x xs before lt =
        elim (list_any (repeats x) before)
        as (λ t. between from to (if t then merged_after (before ++ x ∷ []) xs
        else x ∷ merged_after (before ++ x ∷ []) xs) ≡ between from to (merged_after (before ++ x ∷ []) xs)) [
          | true ↦ refl
          | false ↦ ap (λ t. cond (t && nat_lt x.end to)
              (x ∷ between from to (merged_after (before ++ x ∷ []) xs))
              (between from to (merged_after (before ++ x ∷ []) xs))) (lt-leb from x.end lt)
        ]

-- what is kept is enough to tell which candidates from a position on are given
pub between-kept : (from to : ℕ) (xs : List Candidate) → IsInOrder xs
    → between from to (merged (not_below (from - 15) xs)) ≡ between from to (merged xs)
between-kept from to xs order =
    let position : ℕ = from - 15 in
    let early : List Candidate = below position xs in
    let kept : List Candidate = not_below position xs in
    let passes : All (λ y. nat_lt y.end position ≡ true) early = filter_passes (λ y. nat_lt y.end position) xs in
    let far : All (λ y. y.end + 15 < from) early = All-weaker (λ y. nat_lt y.end position ≡ true)
    (λ y. y.end + 15 < from) (λ y lt. far_off y.end from lt) early passes in
    let before : All (λ y. y.end < from) early = All-weaker (λ y. y.end + 15 < from) (λ y. y.end < from)
    (λ y k. omega arith) early far in
    sym (ap (λ t. between from to (merged t)) (sym (below_then_rest position xs (rising_ends xs order)))
    ∙ ap (between from to) (merged_after-append [] early kept)
    ∙ filter-append _ (merged_after [] early) (merged_after early kept)
    ∙ ap (λ t. t ++ between from to (merged_after early kept))
    (between_none from to (merged_after [] early) (All-merged (λ y. y.end < from) [] early before))
    ∙ ap (λ t. between from to (merged_after t kept)) (sym (append-nil early))
    ∙ between_without_early from to early [] kept far)
  where
    far_off : (end from : ℕ) → nat_lt end (from - 15) ≡ true → end + 15 < from
    far_off end from lt = let l = ltb-true end (from - 15) lt in omega arith
