-- Items of a stretch, counted from the begin of the input, one after another.
use Rattle.fx25_ring.proofs.Common.{◌≡◌, ℕ, ◌+◌, ◌<◌, ◌≤◌, ◌^◌, List, [], ◌∷◌, ◌++◌, length, get_or, map, ap, sym}
use Rattle.fx25_ring.proofs.Common.{subst, ◌∙◌, append_assoc, append-nil, All, Candidate, HeardItem, placed}
use Rattle.std.specs.Prelude.{take}
use Rattle.std.proofs.lemmas.List.{map_push, take_more, take_all}

abbrev pub HasPlaced : ℕ → List HeardItem → ℕ → List Candidate → List Candidate → Type 0
HasPlaced begin heard count before now = All (λ item. begin + item.end < 2 ^ 64) heard
    → now ≡ before ++ map (placed begin) (take count heard)

pub placed_none : (begin : ℕ) (heard : List HeardItem) (before : List Candidate) → HasPlaced begin heard 0 before before
placed_none begin heard before fit = sym (append-nil before)

pub placed_more : (begin : ℕ) (heard : List HeardItem) (count : ℕ) (before now after : List Candidate)
    (item : HeardItem) (new : Candidate)
    → HasPlaced begin heard count before now → count < length heard → item ≡ get_or heard count item
    → (begin + item.end < 2 ^ 64 → new ≡ placed begin item) → after ≡ now ++ new ∷ []
    → HasPlaced begin heard (count + 1) before after
placed_more begin heard count before now after item new so_far within is places pushed fit =
    let fits : begin + item.end < 2 ^ 64
    = subst (λ (i : HeardItem). begin + i.end < 2 ^ 64) (sym is) (fit count item within) in
    pushed ∙ ap (λ c. now ++ c ∷ []) (places fits)
    ∙ ap (λ l. l ++ placed begin item ∷ []) (so_far fit)
    ∙ append_assoc before (map (placed begin) (take count heard)) (placed begin item ∷ [])
    ∙ ap (λ l. before ++ l) (sym (ap (map (placed begin)) (take_more heard count item within)
    ∙ map_push (placed begin) (take count heard) (get_or heard count item)
    ∙ ap (λ i. map (placed begin) (take count heard) ++ placed begin i ∷ []) (sym is)))

pub placed_all : (begin : ℕ) (heard : List HeardItem) (count : ℕ) (before now : List Candidate)
    → HasPlaced begin heard count before now → length heard ≤ count
    → All (λ item. begin + item.end < 2 ^ 64) heard → now ≡ before ++ map (placed begin) heard
placed_all begin heard count before now so_far all fit =
    so_far fit ∙ ap (λ l. before ++ map (placed begin) l) (take_all count heard all)
