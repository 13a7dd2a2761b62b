-- Two lists that strictly rise and have the same elements are the same.
use Rattle.slicer_bank.proofs.Common.{◌≡◌, ℕ, ◌<◌, ℤ, List, [], ◌∷◌, length, get_or, ap, sym, ◌∙◌, arith, refl, subst}
use Rattle.slicer_bank.proofs.Common.{zero, suc, AllPairs, Contains, Candidate, standing, AreCandidates}

abbrev pub Rises : List Candidate → Type 0
Rises = AllPairs (λ item later. standing item < standing later)

abbrev pub HasAll : List Candidate → List Candidate → Type 0
HasAll xs ys = (k : ℕ) (d : Candidate) → k < length xs → Contains ys (get_or xs k d)

-- the head of one list is the head of the other
same_head : (x y : Candidate) (xs ys : List Candidate) → Rises (x ∷ xs) → Rises (y ∷ ys) → Contains (y ∷ ys) x
    → Contains (x ∷ xs) y → x ≡ y
same_head x y xs ys rx ry (zero, within, is) there = sym is
same_head x y xs ys rx ry (suc i, within, is) (zero, there, was) = was
same_head x y xs ys rx ry (suc i, within, is) (suc j, there, was) =
    let later_y = ry 0 (suc i) x (omega arith) within in
    let later_x = rx 0 (suc j) y (omega arith) there in
    let at_x : standing (get_or ys i x) ≡ standing x = ap standing is in
    let at_y : standing (get_or xs j y) ≡ standing y = ap standing was in
    absurd (omega arith)

-- what the tail of one list has is in the tail of the other
tail_has : (x : Candidate) (xs ys : List Candidate) → Rises (x ∷ xs) → HasAll (x ∷ xs) (x ∷ ys) → HasAll xs ys
tail_has x xs ys rx has k d l = go (has (suc k) d (omega arith))
  where
    go : Contains (x ∷ ys) (get_or xs k d) → Contains ys (get_or xs k d)
    go (zero, within, is) =
        let later = rx 0 (suc k) d (omega arith) (omega arith) in
        let same : standing x ≡ standing (get_or xs k d) = ap standing is in
        absurd (omega arith)
    go (suc i, within, is) = (i, omega arith, is)

tail_rises : (x : Candidate) (xs : List Candidate) → Rises (x ∷ xs) → Rises xs
tail_rises x xs h i j d ij jl = h (suc i) (suc j) d (omega arith) (omega arith)

-- and so the whole lists are one
pub same_list : (xs ys : List Candidate) → Rises xs → Rises ys → HasAll xs ys → HasAll ys xs → xs ≡ ys
same_list [] [] rx ry a b = refl
same_list [] (y ∷ ys) rx ry a b = let c = (b 0 y (omega arith)).1 in absurd (omega arith)
same_list (x ∷ xs) [] rx ry a b = let c = (a 0 x (omega arith)).1 in absurd (omega arith)
same_list (x ∷ xs) (y ∷ ys) rx ry a b =
    let head : x ≡ y = same_head x y xs ys rx ry (a 0 x (omega arith)) (b 0 y (omega arith)) in
    let a' : HasAll (x ∷ xs) (x ∷ ys) = subst (λ t. HasAll (x ∷ xs) (t ∷ ys)) (sym head) a in
    let b' : HasAll (x ∷ ys) (x ∷ xs) = subst (λ t. HasAll (t ∷ ys) (x ∷ xs)) (sym head) b in
    let ry' : Rises (x ∷ ys) = subst (λ t. Rises (t ∷ ys)) (sym head) ry in
    ap (λ t. x ∷ t) (same_list xs ys (tail_rises x xs rx) (tail_rises x ys ry') (tail_has x xs ys rx a')
    (tail_has x ys xs ry' b'))
    ∙ ap (λ t. t ∷ ys) head

pub one_list : (x : List ℤ) (items others : List Candidate) → AreCandidates x items → AreCandidates x others
    → items ≡ others
one_list x items others a b =
    same_list items others a.order b.order
    (λ k d l. let e = a.each k d l in b.whole (get_or items k d) e.0 e.1)
    (λ k d l. let e = b.each k d l in a.whole (get_or others k d) e.0 e.1)
