-- The first place, or the first item, that passes a test.
use Rattle.station.proofs.Common.{◌≡◌, ℕ, zero, suc, ◌+◌, ◌<◌, Bool, true, false, not, List, [], ◌∷◌, length, nat_lt}
use Rattle.station.proofs.Common.{cond, position, find, Some, None, refl, AllZip, ◌∙◌, ap, arith, get_or, cond-true}
use Rattle.station.proofs.Common.{cond-false, nat_tests, position_or_len_is}
use Rattle.std.specs.List.{position_or_len}

-- a place that passes, if none before it does
pub position_is : {X : Type 0} (p : X → Bool) (xs : List X) (k : ℕ) (d : X) → k < length xs
    → ((j : ℕ) → j < k → p (get_or xs j d) ≡ false) → p (get_or xs k d) ≡ true → position p xs ≡ Some k
position_is p xs k d within before here =
    let first = position_or_len_is p xs k d (omega (arith, within)) before (λ _. here) in
    ap (λ n. cond (nat_lt n (length xs)) (Some n) None) first
    ∙ cond-true (nat_lt k (length xs)) (Some k) None (grind (arith, nat_tests))

-- no place passes
pub position_none : {X : Type 0} (p : X → Bool) (xs : List X) (d : X)
    → ((j : ℕ) → j < length xs → p (get_or xs j d) ≡ false) → position p xs ≡ None
position_none p xs d fails =
    let end = position_or_len_is p xs (length xs) d (omega arith) fails (λ less. absurd (omega (arith, less))) in
    ap (λ n. cond (nat_lt n (length xs)) (Some n) None) end
    ∙ cond-false (nat_lt (length xs) (length xs)) (Some (length xs)) None (grind (arith, nat_tests))

same_places : {A B : Type 0} (R : A → B → Type 0) (p : A → Bool) (q : B → Bool) (alike : (a : A) (b : B) → R a b
    → p a ≡ q b) (xs : List A) (ys : List B) → AllZip R xs ys → position_or_len p xs ≡ position_or_len q ys
same_places R p q alike [] [] h = refl
same_places R p q alike [] (y ∷ ys) h = absurd h
same_places R p q alike (x ∷ xs) [] h = absurd h
same_places R p q alike (x ∷ xs) (y ∷ ys) h =
    ap (λ passes. cond (not passes) (1 + position_or_len p xs) 0) (alike x y h.0)
    ∙ ap (λ n. cond (not (q y)) (1 + n) 0) (same_places R p q alike xs ys h.1)

-- lists whose items are alike have their first place together
pub position-AllZip : {A B : Type 0} (R : A → B → Type 0) (p : A → Bool) (q : B → Bool) (alike : (a : A) (b : B) → R a b
    → p a ≡ q b) (xs : List A) (ys : List B) → AllZip R xs ys → length xs ≡ length ys → position p xs ≡ position q ys
position-AllZip R p q alike xs ys h same =
    ap (λ n. cond (nat_lt n (length xs)) (Some n) None) (same_places R p q alike xs ys h)
    ∙ ap (λ most. cond (nat_lt (position_or_len q ys) most) (Some (position_or_len q ys)) None) same

-- the first item that passes
pub find_at : {X : Type 0} (p : X → Bool) (xs : List X) (k : ℕ) (d : X) → k < length xs
    → ((j : ℕ) → j < k → p (get_or xs j d) ≡ false) → p (get_or xs k d) ≡ true → find p xs ≡ Some (get_or xs k d)
find_at p [] k d within before here = absurd (omega (arith, within))
find_at p (x ∷ xs) zero d within before here = cond-true (p x) (Some x) (find p xs) here
find_at p (x ∷ xs) (suc k) d within before here =
    cond-false (p x) (Some x) (find p xs) (before 0 (omega arith))
    ∙ find_at p xs k d (omega (arith, within)) (λ j less. before (suc j) (omega (arith, less))) here

-- no item passes
pub find_none : {X : Type 0} (p : X → Bool) (xs : List X) (d : X)
    → ((j : ℕ) → j < length xs → p (get_or xs j d) ≡ false) → find p xs ≡ None
find_none p [] d fails = refl
find_none p (x ∷ xs) d fails =
    cond-false (p x) (Some x) (find p xs) (fails 0 (omega arith))
    ∙ find_none p xs d (λ j less. fails (suc j) (omega (arith, less)))
