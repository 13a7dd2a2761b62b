-- A list with few octets that are not 0 has not as many zeros in a row among the powers: the determinant of
-- Vandermonde, by induction on how many octets are not 0.
use Rattle.reed_solomon.proofs.Common.{◌≡◌, ℕ, zero, suc, ◌+◌, ◌*◌, ◌<◌, ◌≤◌, bit_xor, List, [], ◌∷◌, length, refl, ap}
use Rattle.reed_solomon.proofs.Common.{◌∙◌, sym, arith, xor_self, xor_of_8, times_power, value_at, Vanishes}
use Rattle.reed_solomon.proofs.FieldLemmas.{xor_pairs, same_from_xor, times_power-lt, times_power-zero, times_power-xor}
use Rattle.reed_solomon.proofs.FieldLemmas.{times_power-add, times_power_comm, same_power, zero_from_times_power}
use Rattle.reed_solomon.proofs.ValueLemmas.{Octets, value_at-lt, weight, value_at-weightless, value_at-zero}

-- each octet times the sum of its own point and power(q)
abbrev reduced : ℕ → List ℕ → List ℕ
reduced q [] = []
reduced q (x ∷ xs) = bit_xor (times_power (length xs) x) (times_power q x) ∷ reduced q xs

length-reduced : (q : ℕ) (xs : List ℕ) → length (reduced q xs) ≡ length xs
length-reduced q [] = refl
length-reduced q (x ∷ xs) = ap suc (length-reduced q xs)

Octets-reduced : (q : ℕ) (xs : List ℕ) → Octets xs → Octets (reduced q xs)
Octets-reduced q [] octets = tt
Octets-reduced q (x ∷ xs) octets = (
  xor_of_8 (times_power (length xs) x) (times_power q x) (times_power-lt (length xs) x octets.0)
      (times_power-lt q x octets.0),
  Octets-reduced q xs octets.1,
)

value_at-reduced : (j q : ℕ) (xs : List ℕ) → Octets xs
    → value_at j (reduced q xs) ≡ bit_xor (value_at (suc j) xs) (times_power q (value_at j xs))
unfolding value_at
value_at-reduced j q [] octets = sym (times_power-zero q)
value_at-reduced j q (x ∷ xs) octets =
    let n = length xs in
    let here = times_power (j * n) x in
    let next : j * n + n ≡ suc j * n = omega arith in
    let rest = value_at j (reduced q xs) in
    let part : times_power (j * n) (bit_xor (times_power n x) (times_power q x))
    ≡ bit_xor (times_power (suc j * n) x) (times_power q here) =
    times_power-xor (j * n) (times_power n x) (times_power q x) (times_power-lt n x octets.0)
    (times_power-lt q x octets.0)
    ∙ ap (λ m. bit_xor m (times_power (j * n) (times_power q x))) (sym (times_power-add (j * n) n x)
    ∙ ap (λ m. times_power m x) next)
    ∙ ap (bit_xor (times_power (suc j * n) x)) (times_power_comm (j * n) q x) in
    ap (λ m. bit_xor (times_power (j * m) (bit_xor (times_power n x) (times_power q x))) rest) (length-reduced q xs)
    ∙ ap (λ m. bit_xor m rest) part
    ∙ ap (bit_xor (bit_xor (times_power (suc j * n) x) (times_power q here))) (value_at-reduced j q xs octets.1)
    ∙ xor_pairs (times_power (suc j * n) x) (times_power q here) (value_at (suc j) xs) (times_power q (value_at j xs))
    ∙ ap (bit_xor (bit_xor (times_power (suc j * n) x) (value_at (suc j) xs))) (sym (times_power-xor q here
    (value_at j xs) (times_power-lt (j * n) x octets.0) (value_at-lt j xs octets.1)))

-- no octet but that at place q becomes 0
weight-reduced : (q : ℕ) (xs : List ℕ) → Octets xs → length xs ≤ q → q < 255 → weight (reduced q xs) ≡ weight xs
unfolding weight
weight-reduced q [] octets short below = refl
weight-reduced q (zero ∷ xs) octets short below =
    let none : bit_xor (times_power (length xs) 0) (times_power q 0) ≡ 0 =
    ap (λ m. bit_xor m (times_power q 0)) (times_power-zero (length xs)) ∙ ap (bit_xor 0) (times_power-zero q) in
    ap (λ m. weight (m ∷ reduced q xs)) none ∙ weight-reduced q xs octets.1 (omega arith) below
weight-reduced q (suc x ∷ xs) octets short below =
    weight_some (bit_xor (times_power (length xs) (suc x)) (times_power q (suc x))) (reduced q xs) (λ none.
    let same = same_power (length xs) q (suc x) (omega arith) below (omega arith) octets.0
    (same_from_xor (times_power (length xs) (suc x)) (times_power q (suc x)) none) in absurd (omega arith))
    ∙ ap suc (weight-reduced q xs octets.1 (omega arith) below)
  where
    weight_some : (y : ℕ) (ys : List ℕ) → (y ≡ 0 → ⊥) → weight (y ∷ ys) ≡ suc (weight ys)
    weight_some zero ys some = absurd (some refl)
    weight_some (suc y) ys some = refl

-- the claim for lists with at most m octets that are not 0
abbrev Claim : ℕ → Type 0
Claim m = (xs : List ℕ) (first : ℕ) → Octets xs → length xs ≤ 255 → weight xs ≤ m → Vanishes first m xs
    → weight xs ≡ 0

next_claim : (m : ℕ) → Claim m → Claim (suc m)
unfolding weight value_at
next_claim m claim [] first octets short light vanishes = refl
next_claim m claim (zero ∷ xs) first octets short light vanishes =
    next_claim m claim xs first octets.1 (omega arith) light
    (λ j from below. sym (value_at-zero j xs) ∙ vanishes j from below)
next_claim m claim (suc x ∷ xs) first octets short light vanishes =
    let q = length xs in
    let rest = λ (j : ℕ) (from : first ≤ j) (below : j < first + suc m).
    sym (same_from_xor (times_power (j * q) (suc x)) (value_at j xs) (vanishes j from below)) in
    let at_reduced : Vanishes first m (reduced q xs) = λ j from below.
    let next : q + j * q ≡ suc j * q = omega arith in
    value_at-reduced j q xs octets.1
    ∙ ap (λ n. bit_xor n (times_power q (value_at j xs))) (rest (suc j) (omega arith) (omega arith))
    ∙ ap (λ n. bit_xor (times_power (suc j * q) (suc x)) (times_power q n)) (rest j from (omega arith))
    ∙ ap (bit_xor (times_power (suc j * q) (suc x))) (sym (times_power-add q (j * q) (suc x))
    ∙ ap (λ n. times_power n (suc x)) next) ∙ xor_self (times_power (suc j * q) (suc x)) in
    let same = weight-reduced q xs octets.1 (omega arith) (omega arith) in
    let none = claim (reduced q xs) first (Octets-reduced q xs octets.1) (omega (arith, length-reduced q xs))
    (omega arith) at_reduced in
    let weightless : weight xs ≡ 0 = sym same ∙ none in
    let gone : times_power (first * q) (suc x) ≡ 0 = sym (rest first (omega arith) (omega arith))
    ∙ value_at-weightless first xs weightless in
    let zero_octet : suc x ≡ 0 = zero_from_times_power (first * q) (suc x) octets.0 gone in
    absurd (omega arith)

pub few_zeros : (m : ℕ) → Claim m
few_zeros zero = λ xs first octets short light vanishes. omega arith
few_zeros (suc m) = next_claim m (few_zeros m)
