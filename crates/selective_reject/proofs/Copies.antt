-- Lists that are copied item by item.
use Rattle.std.proofs.Common.{◌≡◌, ℕ, zero, suc, ◌+◌, ◌-◌, ◌<◌, ◌≤◌, List, [], ◌∷◌, ◌++◌, length, take, drop}
use Rattle.std.proofs.Common.{Some, None, IfSome, refl, sym, ap, ◌∙◌, subst, arith}
use Rattle.std.specs.Prelude.{slice_get}
use Rattle.std.proofs.lemmas.List.{length-take}
use Rattle.circular_buffer.specs.Buffer.{keep_last}

-- one item more
pub take_next :
    {A : Type 0} (xs : List A) (n : ℕ) (x : A) → slice_get xs n ≡ Some x → take n xs ++ x ∷ [] ≡ take (n + 1) xs
take_next [] n x is = absurd (subst (λ o. IfSome o (λ y. ⊥)) is tt)
take_next (y ∷ xs) zero x is = subst (λ o. IfSome o (λ z. z ∷ [] ≡ y ∷ [])) is refl
take_next (y ∷ xs) (suc n) x is =
    let e : suc (n + 1) ≡ suc n + 1 = omega arith in
    ap (λ t. y ∷ t) (take_next xs n x is) ∙ ap (λ k. take k (y ∷ xs)) e

-- all are kept if they fit
pub all_kept : {A : Type 0} (n : ℕ) (xs : List A) → length xs ≤ n → keep_last n xs ≡ xs
all_kept n xs fits = let none : length xs - n ≡ 0 = omega arith in ap (λ k. drop k xs) none

-- one item more is kept
pub kept_next :
    {A : Type 0} (most place : ℕ) (ps xs : List A) (x : A) → ps ≡ take place xs → slice_get xs place ≡ Some x
    → length xs ≤ most → keep_last most (ps ++ x ∷ []) ≡ take (place + 1) xs
kept_next most place ps xs x so_far is fits =
    let all : ps ++ x ∷ [] ≡ take (place + 1) xs = ap (λ t. t ++ x ∷ []) so_far ∙ take_next xs place x is in
    let size = length-take (place + 1) xs in
    ap (keep_last most) all ∙ all_kept most (take (place + 1) xs) (omega arith)

-- there is none to be copied after the last
pub none_next : {A : Type 0} (xs : List A) (place : ℕ) → place < length xs → slice_get xs place ≡ None → ⊥
none_next [] place within is = omega arith
none_next (x ∷ xs) zero within is = subst (λ o. IfSome o (λ y. ⊥)) (sym is) tt
none_next (x ∷ xs) (suc place) within is = none_next xs place (omega arith) is
