-- Candidates put into a merger, one after another.
use Rattle.std.proofs.Common.{◌≡◌, ℕ, ◌+◌, ◌<◌, List, [], ◌∷◌, ◌++◌, length, get_or, append_assoc, sym, subst, ◌∙◌, ap}
use Rattle.std.proofs.Common.{arith, inl, inr}
use Rattle.std.specs.List.{AllPairs}
use Rattle.std.specs.List.Sorted.{IsNonDecreasingBy}
use Rattle.std.proofs.lemmas.Bool.{cases_eq}
use Rattle.std.proofs.lemmas.List.{append-nil, nil_from_length}
use Rattle.frame_merge.specs.declared.candidate.Candidate.{Candidate}
use Rattle.frame_merge.specs.Held.{Held, StandsFor}
use Rattle.frame_merge.specs.Order.{in_order, standing}
use Rattle.frame_merge.proofs.Ordering.{in_order-rising}

-- the merger was given these candidates since, and so many others are left
pub record HasPut (initial now : Held) (all items left : List Candidate) (count : ℕ) : Type 0 where
  pub marks : now.marks ≡ initial.marks
  pub stands_for : (puts given : List Candidate) → StandsFor initial puts given → StandsFor now (puts ++ items) given
  pub parts : items ++ left ≡ all
  pub counted : length left ≡ count

pub has_put_more : (initial was now : Held) (all items left rest : List Candidate) (count less : ℕ) (item : Candidate)
    → HasPut initial was all items left count
    → left ≡ item ∷ rest → less + 1 ≡ count
    → now.marks ≡ was.marks → ((puts given : List Candidate) → StandsFor was puts given
    → StandsFor now (puts ++ item ∷ []) given)
    → HasPut initial now all (items ++ item ∷ []) rest less
has_put_more initial was now all items left rest count less item h is fewer same step = record {
  marks = same ∙ h.marks;
  stands_for = λ puts given s. subst (λ t. StandsFor now t given) (append_assoc puts items (item ∷ []))
      (step (puts ++ items) given (h.stands_for puts given s));
  parts = append_assoc items (item ∷ []) rest ∙ ap (λ t. items ++ t) (sym is) ∙ h.parts;
  counted = (let c = h.counted in let l : length left ≡ length (item ∷ rest) = ap length is in omega arith);
}

pub has_put_all : (initial now : Held) (all items left : List Candidate) (count : ℕ)
    → HasPut initial now all items left count → count ≡ 0 → items ≡ all
has_put_all initial now all items left count h none =
    let empty : left ≡ [] = nil_from_length left (h.counted ∙ none) in
    sym (append-nil items) ∙ ap (λ t. items ++ t) (sym empty) ∙ h.parts

-- a list that strictly rises is in order
pub rising_strictly : (items : List Candidate) → AllPairs (λ item later. standing item < standing later) items
    → IsNonDecreasingBy standing items
rising_strictly items h i j d ij jl = elim (cases_eq i j) [
  | inl same ↦ let e : standing (get_or items i d) ≡ standing (get_or items j d) =
      ap (λ t. standing (get_or items t d)) same in omega arith
  | inr other ↦ let below = h i j d (omega arith) jl in omega arith
]

pub in_order-strictly : (items : List Candidate) → AllPairs (λ item later. standing item < standing later) items
    → in_order items ≡ items
in_order-strictly items h = in_order-rising items (rising_strictly items h)
