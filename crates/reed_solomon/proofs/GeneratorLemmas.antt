-- The generator is 0 at each root of its code.
use Rattle.reed_solomon.proofs.Common.{◌≡◌, ℕ, zero, suc, ◌+◌, ◌*◌, ◌<◌, bit_xor, List, [], ◌∷◌, ◌++◌, length, map}
use Rattle.reed_solomon.proofs.Common.{refl, ap, ◌∙◌, sym, inl, inr, arith, length-append, xor_zero_r, xor_self}
use Rattle.reed_solomon.proofs.Common.{xor_assoc, cases_lt, length-map, times_power, power, value_at, Vanishes, product}
use Rattle.reed_solomon.proofs.Common.{added, with_root, generator_of}
use Rattle.reed_solomon.proofs.FieldLemmas.{times_power-zero, product-zero, power-product}
use Rattle.reed_solomon.proofs.ValueLemmas.{Octets, Octets-append, Octets-added, Octets-product, length-added}
use Rattle.reed_solomon.proofs.ValueLemmas.{value_at-lt, value_at-added, value_at-product, value_at-append}

pub value_at-single : (j x : ℕ) → value_at j (x ∷ []) ≡ x
unfolding value_at times_power
value_at-single j x =
    let none : j * 0 ≡ 0 = omega arith in
    ap (λ n. bit_xor (times_power n x) 0) none ∙ xor_zero_r x

-- one octet more at the end: the others are worth one power more
pub value_at-push : (j x : ℕ) (xs : List ℕ) → Octets xs
    → value_at j (xs ++ x ∷ []) ≡ bit_xor (times_power j (value_at j xs)) x
value_at-push j x xs octets =
    let one : j * 1 ≡ j = omega arith in
    value_at-append j xs (x ∷ []) octets
    ∙ ap (λ n. bit_xor (times_power n (value_at j xs)) (value_at j (x ∷ []))) one
    ∙ ap (bit_xor (times_power j (value_at j xs))) (value_at-single j x)

pub value_at-cons : (j x : ℕ) (xs : List ℕ) → value_at j (x ∷ xs) ≡ bit_xor (times_power (j * length xs) x)
    (value_at j xs)
unfolding value_at
value_at-cons j x xs = refl

with_root_is : {A : Type 0} (root : ℕ) (rest : List ℕ) (f : List ℕ → A)
    → f (with_root root rest) ≡ f (added (rest ++ 0 ∷ []) (map (product root) (1 ∷ rest)))
unfolding with_root
with_root_is root rest f = refl

pub length-with_root : (root : ℕ) (rest : List ℕ) → length (with_root root rest) ≡ suc (length rest)
unfolding with_root
length-with_root root rest =
    length-added (rest ++ 0 ∷ []) (map (product root) (1 ∷ rest))
    (omega (arith, length-append rest (0 ∷ []), length-map rest (product root)))
    ∙ omega (arith, length-append rest (0 ∷ []))

pub Octets-with_root : (root : ℕ) (rest : List ℕ) → Octets rest → Octets (with_root root rest)
unfolding with_root
Octets-with_root root rest octets =
    Octets-added (rest ++ 0 ∷ []) (map (product root) (1 ∷ rest))
    (Octets-append rest (0 ∷ []) octets (omega arith, tt))
    (Octets-product root (1 ∷ rest) (omega arith, octets))

-- the value of the product is the value times the sum of the point and the root
pub value_at-with_root : (j root : ℕ) (rest : List ℕ) → Octets rest → value_at j (1 ∷ with_root root rest)
    ≡ bit_xor (times_power j (value_at j (1 ∷ rest))) (product root (value_at j (1 ∷ rest)))
value_at-with_root j root rest octets =
    let shifted = rest ++ 0 ∷ [] in
    let scaled = map (product root) (1 ∷ rest) in
    let size : length shifted ≡ suc (length rest) = length-append rest (0 ∷ []) ∙ omega arith in
    let same : length shifted ≡ length scaled = omega (arith, length-map rest (product root)) in
    let all : Octets (1 ∷ rest) = (omega arith, octets) in
    let wide = Octets-append rest (0 ∷ []) octets (omega arith, tt) in
    let split : value_at j (with_root root rest) ≡ bit_xor (value_at j shifted) (value_at j scaled) =
    with_root_is root rest (λ xs. value_at j xs)
    ∙ value_at-added j shifted scaled same wide (Octets-product root (1 ∷ rest) all) in
    value_at-cons j 1 (with_root root rest)
    ∙ ap (λ n. bit_xor (times_power (j * n) 1) (value_at j (with_root root rest))) (length-with_root root rest
    ∙ sym size)
    ∙ ap (bit_xor (times_power (j * length shifted) 1)) split
    ∙ sym (xor_assoc (times_power (j * length shifted) 1) (value_at j shifted) (value_at j scaled))
    ∙ ap (λ n. bit_xor n (value_at j scaled)) (sym (value_at-cons j 1 shifted) ∙ value_at-push j 0 (1 ∷ rest) all
    ∙ xor_zero_r (times_power j (value_at j (1 ∷ rest))))
    ∙ ap (bit_xor (times_power j (value_at j (1 ∷ rest)))) (value_at-product j root (1 ∷ rest) all)

pub length-generator_of : (first n : ℕ) → length (generator_of first n) ≡ n
unfolding generator_of
length-generator_of first zero = refl
length-generator_of first (suc n) =
    length-with_root (power (first + n)) (generator_of first n) ∙ ap suc (length-generator_of first n)

pub Octets-generator_of : (first n : ℕ) → Octets (generator_of first n)
unfolding generator_of
Octets-generator_of first zero = tt
Octets-generator_of first (suc n) =
    Octets-with_root (power (first + n)) (generator_of first n) (Octets-generator_of first n)

-- The generator is 0 at each of its roots.
pub generator_vanishes : (first n : ℕ) → Vanishes first n (1 ∷ generator_of first n)
unfolding generator_of
generator_vanishes first zero = λ j from below. absurd (omega arith)
generator_vanishes first (suc n) = λ j from below.
    let rest = generator_of first n in
    let root = power (first + n) in
    let v = value_at j (1 ∷ rest) in
    let fits : v < 256 = value_at-lt j (1 ∷ rest) (omega arith, Octets-generator_of first n) in
    let law = value_at-with_root j root rest (Octets-generator_of first n) in
    let with_value : (w : ℕ) → v ≡ w → bit_xor (times_power j w) (product root w) ≡ 0
    → value_at j (1 ∷ with_root root rest) ≡ 0 =
    λ w is none. law ∙ ap (λ m. bit_xor (times_power j m) (product root m)) is ∙ none in
    elim (cases_lt j (first + n)) [
      | inl before ↦ with_value 0 (generator_vanishes first n j from before) (ap (λ m. bit_xor m (product root 0))
          (times_power-zero j) ∙ ap (bit_xor 0) (product-zero root))
      | inr at_last ↦
          let last : first + n ≡ j = omega arith in
          with_value v refl (ap (bit_xor (times_power j v)) (power-product (first + n) v fits
          ∙ ap (λ m. times_power m v) last) ∙ xor_self (times_power j v))
    ]
