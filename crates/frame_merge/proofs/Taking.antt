-- What is taken from a merger: the merged candidates up to the least mark.
use Rattle.frame_merge.proofs.Common.{◌≡◌, ℕ, ◌+◌, ◌-◌, ◌^◌, ◌<◌, ◌≤◌, List, [], ◌∷◌, ◌++◌, true, false, ◌&&◌, not}
use Rattle.frame_merge.proofs.Common.{cond, ap, sym, ◌∙◌, arith, length, get_or, take, refl, zero, suc, fold, nat_lt}
use Rattle.frame_merge.proofs.Common.{nat_le, if◌then◌else◌, All, list_any, lt-ltb, append-nil, All-head, All-tail}
use Rattle.frame_merge.proofs.Common.{All-weaker, filter-append, filter_passes, Candidate, in_order, repeats, merged}
use Rattle.frame_merge.proofs.Common.{merged_after, below, not_below, between, Held, StandsFor, least}
use Rattle.std.proofs.Common.{min, replicate}
use Rattle.std.proofs.lemmas.Bool.{leb-true}
use Rattle.std.proofs.lemmas.List.{take_more}
use Rattle.frame_merge.specs.Merged.{is_ready_after}
use Rattle.frame_merge.proofs.Ordering.{rising_ends, All-in_order}
use Rattle.frame_merge.proofs.Merging.{merged_after-append, merged-rising, below_between, All-merged}
use Rattle.frame_merge.proofs.Forgetting.{between-kept, not_below-not_below}

-- the part of one candidate after `earlier`
between_one : (from to : ℕ) (earlier : List Candidate) (item : Candidate)
    → between from to (merged_after earlier (item ∷ []))
    ≡ (if is_ready_after from to earlier item then item ∷ [] else [])
between_one from to earlier item =
    elim (list_any (repeats item) earlier)
    as (λ t. between from to (if t then [] else item ∷ [])
    ≡ (if (nat_le from item.end && nat_lt item.end to) && not t then item ∷ [] else [])) [
      | true ↦ elim (nat_le from item.end && nat_lt item.end to) as (λ u. [] ≡ (if u && false then item ∷ [] else []))
          [ true ↦ refl | false ↦ refl ]
      | false ↦ elim (nat_le from item.end && nat_lt item.end to) as
          (λ u. cond u (item ∷ []) [] ≡ (if u && true then item ∷ [] else [])) [ true ↦ refl | false ↦ refl ]
    ]

-- one more candidate, if what is ready so far is known
pub between_more : (from to : ℕ) (items : List Candidate) (i : ℕ) (d : Candidate) → i < length items
    → between from to (merged (take (i + 1) items))
    ≡ between from to (merged (take i items)) ++ (if is_ready_after from to (take i items) (get_or items i d)
    then get_or items i d ∷ [] else [])
between_more from to items i d l =
    ap (λ t. between from to (merged t)) (take_more items i d l)
    ∙ ap (between from to) (merged_after-append [] (take i items) (get_or items i d ∷ []))
    ∙ filter-append _ (merged (take i items)) (merged_after (take i items) (get_or items i d ∷ []))
    ∙ ap (λ t. between from to (merged (take i items)) ++ t) (between_one from to (take i items) (get_or items i d))

-- the same if that candidate is ready, and if it is not
pub ready_more : (from to : ℕ) (items : List Candidate) (i : ℕ) (item : Candidate) → i < length items
    → item ≡ get_or items i item
    → is_ready_after from to (take i items) item ≡ true
    → between from to (merged (take (i + 1) items)) ≡ between from to (merged (take i items)) ++ item ∷ []
ready_more from to items i item l is ready = between_more from to items i item l
    ∙ ap (λ x. between from to (merged (take i items)) ++ (if is_ready_after from to (take i items) x then x ∷ []
    else [])) (sym is)
    ∙ ap (λ t. between from to (merged (take i items)) ++ (if t then item ∷ [] else [])) ready

pub ready_same : (from to : ℕ) (items : List Candidate) (i : ℕ) (item : Candidate) → i < length items
    → item ≡ get_or items i item
    → is_ready_after from to (take i items) item ≡ false
    → between from to (merged (take (i + 1) items)) ≡ between from to (merged (take i items))
ready_same from to items i item l is ready = between_more from to items i item l
    ∙ ap (λ x. between from to (merged (take i items)) ++ (if is_ready_after from to (take i items) x then x ∷ []
    else [])) (sym is)
    ∙ ap (λ t. between from to (merged (take i items)) ++ (if t then item ∷ [] else [])) ready
    ∙ append-nil (between from to (merged (take i items)))

-- the least of the marks is at most each mark, and at least what none is below
fold_min-le : (a : ℕ) (xs : List ℕ) → fold min a xs ≤ a
fold_min-le a [] = omega arith
fold_min-le a (x ∷ xs) = let rest = fold_min-le (min a x) xs in omega arith

fold_min-each : (a : ℕ) (xs : List ℕ) (k d : ℕ) → k < length xs → fold min a xs ≤ get_or xs k d
fold_min-each a [] k d l = absurd (omega arith)
fold_min-each a (x ∷ xs) zero d l = let rest = fold_min-le (min a x) xs in omega arith
fold_min-each a (x ∷ xs) (suc k) d l = fold_min-each (min a x) xs k d (omega arith)

pub least-each : (marks : List ℕ) → All (λ mark. least marks ≤ mark) marks
least-each marks k d l = fold_min-each (2 ^ 64 - 1) marks k d l

le-fold_min : (b a : ℕ) (xs : List ℕ) → b ≤ a → All (λ x. b ≤ x) xs → b ≤ fold min a xs
le-fold_min b a [] le h = le
le-fold_min b a (x ∷ xs) le h = let first : b ≤ x = All-head (λ y. b ≤ y) x xs h in
    le-fold_min b (min a x) xs (omega arith) (All-tail (λ y. b ≤ y) x xs h)

pub le-least : (b : ℕ) (marks : List ℕ) → b ≤ 2 ^ 64 - 1 → All (λ mark. b ≤ mark) marks → b ≤ least marks
le-least b marks le h = le-fold_min b (2 ^ 64 - 1) marks le h

-- what is ready now joins what was given
so_far_more : (old : Held) (to : ℕ) (ready puts given : List Candidate)
    → old.given_below ≤ to
    → ready ≡ between old.given_below to (merged old.items)
    → StandsFor old puts given
    → given ++ ready ≡ below to (merged (in_order puts))
so_far_more old to ready puts given rises is h =
    let all : List Candidate = in_order puts in
    let same : ready ≡ between old.given_below to (merged all)
    = is ∙ ap (λ t. between old.given_below to (merged t)) h.items ∙ between-kept old.given_below to all h.order in
    ap (λ t. t ++ ready) h.so_far ∙ ap (λ t. below old.given_below (merged all) ++ t) same
    ∙ below_between old.given_below to (merged all) rises (merged-rising (λ y. y.end) [] all (rising_ends all h.order))

-- what is kept then is what would be kept of all
pub kept_now : (old : Held) (to : ℕ) (puts given : List Candidate) → old.given_below ≤ to → StandsFor old puts given
    → not_below (to - 15) old.items ≡ not_below (to - 15) (in_order puts)
kept_now old to puts given rises h = ap (not_below (to - 15)) h.items
    ∙ not_below-not_below (old.given_below - 15) (to - 15) (in_order puts) (omega arith)

-- the merger after that
pub stands_for_ready : (old new : Held) (to : ℕ) (ready puts given : List Candidate)
    → old.given_below ≤ to
    → ready ≡ between old.given_below to (merged old.items)
    → new.given_below ≡ to
    → new.items ≡ not_below (to - 15) old.items
    → StandsFor old puts given
    → StandsFor new puts (given ++ ready) × (given ++ ready ≡ below to (merged (in_order puts)))
stands_for_ready old new to ready puts given rises is at kept h =
    let total = so_far_more old to ready puts given rises is h in (
      record {
        items = kept ∙ kept_now old to puts given rises h ∙ ap (λ t. not_below (t - 15) (in_order puts)) (sym at);
        order = h.order;
        ends = h.ends;
        so_far = total ∙ ap (λ t. below t (merged (in_order puts))) (sym at);
      },
      total,
    )

-- each candidate that is kept ends at most 15 samples before
pub kept_bound : (to : ℕ) (items : List Candidate) → All (λ item. to ≤ item.end + 15) (not_below (to - 15) items)
kept_bound to items = All-weaker (λ item. nat_le (to - 15) item.end ≡ true) (λ item. to ≤ item.end + 15)
    (λ item le. near item.end le) (not_below (to - 15) items) (filter_passes (λ item. nat_le (to - 15) item.end) items)
  where
    near : (end : ℕ) → nat_le (to - 15) end ≡ true → to ≤ end + 15
    near end le = let l = leb-true (to - 15) end le in omega arith

-- all candidates end below the greatest position, so all are taken there
pub below_all : (position : ℕ) (xs : List Candidate) → All (λ x. x.end < position) xs → below position xs ≡ xs
below_all position [] h = refl
below_all position (x ∷ xs) h =
    ap (λ t. cond t (x ∷ below position xs) (below position xs))
    (lt-ltb x.end position (All-head (λ y. y.end < position) x xs h))
    ∙ ap (λ t. x ∷ t) (below_all position xs (All-tail (λ y. y.end < position) x xs h))

pub below_end : (puts : List Candidate) → All (λ x. x.end < 2 ^ 64 - 1) puts
    → below (2 ^ 64 - 1) (merged (in_order puts)) ≡ merged (in_order puts)
below_end puts h = below_all (2 ^ 64 - 1) (merged (in_order puts))
    (All-merged (λ x. x.end < 2 ^ 64 - 1) [] (in_order puts) (All-in_order (λ x. x.end < 2 ^ 64 - 1) puts h))

-- the least of marks that are all at one position
pub least-one : (n position : ℕ) → position ≤ 2 ^ 64 - 1 → least (replicate (suc n) position) ≡ position
least-one n position le = ap (λ a. fold min a (replicate n position))
    (let m : min (2 ^ 64 - 1) position ≡ position = omega arith in m) ∙ settled n
  where
    settled : (n : ℕ) → fold min position (replicate n position) ≡ position
    settled zero = refl
    settled (suc n) = ap (λ a. fold min a (replicate n position))
        (let m : min position position ≡ position = omega arith in m) ∙ settled n

-- the least of marks that are all at the greatest position
pub least-replicate : (n : ℕ) → least (replicate n (2 ^ 64 - 1)) ≡ 2 ^ 64 - 1
least-replicate zero = refl
least-replicate (suc n) = least-replicate n
