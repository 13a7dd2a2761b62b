-- Parts of merged lists, below a position and between two.
use Rattle.std.proofs.Common.{◌≡◌, ℕ, suc, zero, ◌<◌, ◌≤◌, Bool, true, false, List, [], ◌∷◌, ◌++◌, length, ap, refl, sym}
use Rattle.std.proofs.Common.{◌∙◌, arith, subst, cond, append_assoc}
use Rattle.std.specs.List.{All, Contains, filter}
use Rattle.std.specs.List.Sorted.{IsNonDecreasingBy}
use Rattle.std.proofs.lemmas.Bool.{lt-leb}
use Rattle.std.proofs.lemmas.List.{append-nil, append_cancel_left}
use Rattle.std.proofs.lemmas.List.Elements.{All-head, All-tail, Contains-append_right, filter-append}
use Rattle.frame_merge.specs.declared.candidate.Candidate.{Candidate}
use Rattle.frame_merge.specs.Merged.{merged, merged_after, below, not_below, between}
use Rattle.frame_merge.proofs.Merging.{merged_after-append, below_none, below_between, All-merged}

-- candidates that end at or past a position change nothing of the merged part below it
pub below_more : (position : ℕ) (items found : List Candidate) → All (λ y. position ≤ y.end) found
    → below position (merged (items ++ found)) ≡ below position (merged items)
below_more position items found late =
    ap (below position) (merged_after-append [] items found)
    ∙ filter-append _ (merged items) (merged_after items found)
    ∙ ap (λ t. below position (merged items) ++ t) (below_none position (merged_after items found)
    (All-merged (λ y. position ≤ y.end) items found late))
    ∙ append-nil (below position (merged items))

-- what is given next, if so much was given before
pub next_is : (from to : ℕ) (given ready zs : List Candidate) → from ≤ to → IsNonDecreasingBy (λ y. y.end) zs
    → given ≡ below from zs → given ++ ready ≡ below to zs → ready ≡ between from to zs
next_is from to given ready zs le rises before total =
    append_cancel_left (below from zs) ready (between from to zs) (ap (λ t. t ++ ready) (sym before) ∙ total
    ∙ sym (below_between from to zs le rises))

-- past the last end nothing is kept
pub not_below_none : (position : ℕ) (xs : List Candidate) → All (λ y. y.end < position) xs → not_below position xs ≡ []
not_below_none position [] h = refl
not_below_none position (x ∷ xs) h =
    ap (λ t. cond t (x ∷ not_below position xs) (not_below position xs))
    (lt-leb position x.end (All-head (λ y. y.end < position) x xs h))
    ∙ not_below_none position xs (All-tail (λ y. y.end < position) x xs h)

-- what passes a test is among what passes it
pub contains_passing : (p : Candidate → Bool) (xs : List Candidate) (item : Candidate) → Contains xs item
    → p item ≡ true → Contains (filter p xs) item
contains_passing p [] item (k, l, e) passes = absurd (omega arith)
contains_passing p (x ∷ xs) item (zero, l, e) passes =
    subst (λ t. Contains (cond t (x ∷ filter p xs) (filter p xs)) item) (sym (ap p e ∙ passes))
    (0, (let l : 0 < length (x ∷ filter p xs) = omega arith in l), e)
contains_passing p (x ∷ xs) item (suc k, l, e) passes =
    let rest = contains_passing p xs item (k, (let l' : k < length xs = omega arith in l'), e) passes in
    elim (p x) as (λ t. Contains (cond t (x ∷ filter p xs) (filter p xs)) item)
    [ true ↦ Contains-append_right (x ∷ []) (filter p xs) item rest | false ↦ rest ]

-- one stretch and the next are one stretch
pub between_between : (from middle to : ℕ) (zs : List Candidate) → from ≤ middle → middle ≤ to
    → IsNonDecreasingBy (λ y. y.end) zs
    → between from middle zs ++ between middle to zs ≡ between from to zs
between_between from middle to zs le more rises =
    append_cancel_left (below from zs) (between from middle zs ++ between middle to zs) (between from to zs)
    (sym (append_assoc (below from zs) (between from middle zs) (between middle to zs))
    ∙ ap (λ t. t ++ between middle to zs) (below_between from middle zs le rises)
    ∙ below_between middle to zs more rises
    ∙ sym (below_between from to zs (omega arith) rises))
