-- Values of polynomials: sums, products, and lists put together.
use Rattle.reed_solomon.proofs.Common.{◌≡◌, ℕ, zero, suc, ◌+◌, ◌*◌, ◌<◌, bit_xor, List, [], ◌∷◌, ◌++◌, length, get_or}
use Rattle.reed_solomon.proofs.Common.{map, replicate, refl, ap, ◌∙◌, sym, arith, length-append, xor_zero_l, xor_assoc}
use Rattle.reed_solomon.proofs.Common.{length-map, xor_of_8, times_power, value_at, product, added}
use Rattle.reed_solomon.proofs.FieldLemmas.{xor_pairs, times_power-lt, times_power-zero, times_power-xor}
use Rattle.reed_solomon.proofs.FieldLemmas.{times_power-add, product-lt, product-zero, product-xor, product-times_power}

-- each element is an octet
abbrev pub Octets : List ℕ → Type 0
Octets [] = Unit {0}
Octets (x ∷ xs) = (x < 256) × Octets xs

pub octets_from : (xs : List ℕ) → ((k : ℕ) → k < length xs → get_or xs k 0 < 256) → Octets xs
octets_from [] each = tt
octets_from (x ∷ xs) each = (each 0 (omega arith), octets_from xs (λ k below. each (suc k) (omega arith)))

pub octet_at : (xs : List ℕ) (k : ℕ) → Octets xs → get_or xs k 0 < 256
octet_at [] k octets = omega arith
octet_at (x ∷ xs) zero octets = octets.0
octet_at (x ∷ xs) (suc k) octets = octet_at xs k octets.1

pub Octets-append : (xs ys : List ℕ) → Octets xs → Octets ys → Octets (xs ++ ys)
Octets-append [] ys left right = right
Octets-append (x ∷ xs) ys left right = (left.0, Octets-append xs ys left.1 right)

pub Octets-replicate : (n : ℕ) → Octets (replicate n 0)
Octets-replicate zero = tt
Octets-replicate (suc n) = (omega arith, Octets-replicate n)

-- ---- lists of one length added place by place

pub length-added : (xs ys : List ℕ) → length xs ≡ length ys → length (added xs ys) ≡ length xs
length-added [] ys same = refl
length-added (x ∷ xs) [] same = absurd (omega arith)
length-added (x ∷ xs) (y ∷ ys) same = ap suc (length-added xs ys (omega arith))

pub Octets-added : (xs ys : List ℕ) → Octets xs → Octets ys → Octets (added xs ys)
Octets-added [] ys left right = tt
Octets-added (x ∷ xs) [] left right = tt
Octets-added (x ∷ xs) (y ∷ ys) left right = (xor_of_8 x y left.0 right.0, Octets-added xs ys left.1 right.1)

pub get_or-added : (xs ys : List ℕ) (k : ℕ) → length xs ≡ length ys
    → get_or (added xs ys) k 0 ≡ bit_xor (get_or xs k 0) (get_or ys k 0)
get_or-added [] [] k same = refl
get_or-added [] (y ∷ ys) k same = absurd (omega arith)
get_or-added (x ∷ xs) [] k same = absurd (omega arith)
get_or-added (x ∷ xs) (y ∷ ys) zero same = refl
get_or-added (x ∷ xs) (y ∷ ys) (suc k) same = get_or-added xs ys k (omega arith)

pub value_at-lt : (j : ℕ) (xs : List ℕ) → Octets xs → value_at j xs < 256
unfolding value_at
value_at-lt j [] octets = omega arith
value_at-lt j (x ∷ xs) octets =
    xor_of_8 (times_power (j * length xs) x) (value_at j xs) (times_power-lt (j * length xs) x octets.0)
    (value_at-lt j xs octets.1)

pub value_at-added : (j : ℕ) (xs ys : List ℕ) → length xs ≡ length ys → Octets xs → Octets ys
    → value_at j (added xs ys) ≡ bit_xor (value_at j xs) (value_at j ys)
unfolding value_at
value_at-added j [] [] same left right = refl
value_at-added j [] (y ∷ ys) same left right = absurd (omega arith)
value_at-added j (x ∷ xs) [] same left right = absurd (omega arith)
value_at-added j (x ∷ xs) (y ∷ ys) same left right =
    let rest : length xs ≡ length ys = omega arith in
    let n = length xs in
    ap (λ m. bit_xor (times_power (j * m) (bit_xor x y)) (value_at j (added xs ys))) (length-added xs ys rest)
    ∙ ap (λ m. bit_xor m (value_at j (added xs ys))) (times_power-xor (j * n) x y left.0 right.0)
    ∙ ap (bit_xor (bit_xor (times_power (j * n) x) (times_power (j * n) y)))
    (value_at-added j xs ys rest left.1 right.1)
    ∙ xor_pairs (times_power (j * n) x) (times_power (j * n) y) (value_at j xs) (value_at j ys)
    ∙ ap (λ m. bit_xor (bit_xor (times_power (j * n) x) (value_at j xs)) (bit_xor (times_power (j * m) y)
    (value_at j ys)))
    rest

-- ---- a list times an octet

pub Octets-product : (a : ℕ) (xs : List ℕ) → Octets xs → Octets (map (product a) xs)
Octets-product a [] octets = tt
Octets-product a (x ∷ xs) octets = (product-lt a x octets.0, Octets-product a xs octets.1)

pub value_at-product : (j a : ℕ) (xs : List ℕ) → Octets xs → value_at j (map (product a) xs)
    ≡ product a (value_at j xs)
unfolding value_at
value_at-product j a [] octets = sym (product-zero a)
value_at-product j a (x ∷ xs) octets =
    let n = length xs in
    ap (λ m. bit_xor (times_power (j * m) (product a x)) (value_at j (map (product a) xs)))
    (length-map xs (product a))
    ∙ ap (λ m. bit_xor m (value_at j (map (product a) xs))) (sym (product-times_power a (j * n) x))
    ∙ ap (bit_xor (product a (times_power (j * n) x))) (value_at-product j a xs octets.1)
    ∙ sym (product-xor a (times_power (j * n) x) (value_at j xs) (times_power-lt (j * n) x octets.0)
    (value_at-lt j xs octets.1))

-- ---- lists put together

-- what stands before others is worth as many powers more
pub value_at-append : (j : ℕ) (xs ys : List ℕ) → Octets xs
    → value_at j (xs ++ ys) ≡ bit_xor (times_power (j * length ys) (value_at j xs)) (value_at j ys)
unfolding value_at
value_at-append j [] ys octets =
    sym (xor_zero_l (value_at j ys)) ∙ ap (λ n. bit_xor n (value_at j ys)) (sym (times_power-zero (j * length ys)))
value_at-append j (x ∷ xs) ys octets =
    let m = length ys in
    let n = length xs in
    let place : j * length (xs ++ ys) ≡ j * m + j * n = ap (λ k. j * k) (length-append xs ys) ∙ omega arith in
    let more = λ (k : ℕ). times_power (j * k) in
    ap (λ k. bit_xor (times_power k x) (value_at j (xs ++ ys))) place
    ∙ ap (λ k. bit_xor k (value_at j (xs ++ ys))) (times_power-add (j * m) (j * n) x)
    ∙ ap (bit_xor (times_power (j * m) (times_power (j * n) x))) (value_at-append j xs ys octets.1)
    ∙ sym (xor_assoc (times_power (j * m) (times_power (j * n) x)) (times_power (j * m) (value_at j xs))
    (value_at j ys))
    ∙ ap (λ k. bit_xor k (value_at j ys)) (sym (times_power-xor (j * m) (times_power (j * n) x) (value_at j xs)
    (times_power-lt (j * n) x octets.0) (value_at-lt j xs octets.1)))

pub value_at-zeros : (j n : ℕ) → value_at j (replicate n 0) ≡ 0
unfolding value_at
value_at-zeros j zero = refl
value_at-zeros j (suc n) =
    ap (λ m. bit_xor m (value_at j (replicate n 0))) (times_power-zero (j * length (replicate n 0)))
    ∙ xor_zero_l (value_at j (replicate n 0)) ∙ value_at-zeros j n

-- ---- how many octets are not 0

unfoldable pub weight : List ℕ → ℕ
weight [] = 0
weight (zero ∷ xs) = weight xs
weight (suc x ∷ xs) = suc (weight xs)

pub value_at-weightless : (j : ℕ) (xs : List ℕ) → weight xs ≡ 0 → value_at j xs ≡ 0
unfolding value_at weight
value_at-weightless j [] none = refl
value_at-weightless j (zero ∷ xs) none =
    ap (λ m. bit_xor m (value_at j xs)) (times_power-zero (j * length xs)) ∙ xor_zero_l (value_at j xs)
    ∙ value_at-weightless j xs none
value_at-weightless j (suc x ∷ xs) none = absurd (omega arith)

-- 0 in front adds nothing
pub value_at-zero : (j : ℕ) (xs : List ℕ) → value_at j (0 ∷ xs) ≡ value_at j xs
unfolding value_at
value_at-zero j xs =
    ap (λ m. bit_xor m (value_at j xs)) (times_power-zero (j * length xs)) ∙ xor_zero_l (value_at j xs)
