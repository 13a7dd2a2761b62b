-- A list that is not 0 has fewer zeros than coefficients: it is divided by the difference to one zero after another, as
-- Horner does.
use Rattle.reed_solomon.proofs.Common.{◌≡◌, ℕ, zero, suc, ◌+◌, ◌*◌, ◌<◌, ◌≤◌, cond, eqb, bit_xor, List, [], ◌∷◌, length}
use Rattle.reed_solomon.proofs.Common.{refl, ap, ◌∙◌, sym, inl, inr, arith, xor_zero_l, xor_assoc, cases_eq, eq-eqb}
use Rattle.reed_solomon.proofs.Common.{ne_eqb, xor_of_8, times_power, value_at}
use Rattle.reed_solomon.proofs.FieldLemmas.{xor_pairs, same_from_xor, times_power-lt, times_power-zero, times_power-xor}
use Rattle.reed_solomon.proofs.FieldLemmas.{times_power-add, same_power, xor_twice}
use Rattle.reed_solomon.proofs.ValueLemmas.{Octets, value_at-lt, value_at-zero, weight}
use Rattle.reed_solomon.proofs.GeneratorLemmas.{value_at-cons, value_at-single}
use Rattle.reed_solomon.proofs.DistanceLemmas.{weight-zero, weight-some}

nil_value : (j : ℕ) → value_at j [] ≡ 0
unfolding value_at
nil_value j = refl

weight_nil : weight [] ≡ 0
unfolding weight
weight_nil = refl

-- an octet whose products with two powers are one
zero_beside : (r p q : ℕ) → r < p → p < 255 → q < 256 → bit_xor (times_power r q) (times_power p q) ≡ 0 → q ≡ 0
zero_beside r p zero below low fits none = refl
zero_beside r p (suc q) below low fits none =
    let same = same_power r p (suc q) (omega arith) low (omega arith) fits
    (same_from_xor (times_power r (suc q)) (times_power p (suc q)) none) in absurd (omega arith)

-- the quotient of a list, here its first coefficient and the others, by the sum of x and power(p)
abbrev quotient : ℕ → ℕ → List ℕ → List ℕ
quotient p a [] = []
quotient p a (b ∷ bs) = a ∷ quotient p (bit_xor (times_power p a) b) bs

length-quotient : (p a : ℕ) (bs : List ℕ) → length (quotient p a bs) ≡ length bs
length-quotient p a [] = refl
length-quotient p a (b ∷ bs) = ap suc (length-quotient p (bit_xor (times_power p a) b) bs)

Octets-quotient : (p a : ℕ) (bs : List ℕ) → a < 256 → Octets bs → Octets (quotient p a bs)
Octets-quotient p a [] fits octets = tt
Octets-quotient p a (b ∷ bs) fits octets = (
  fits,
  Octets-quotient p (bit_xor (times_power p a) b) bs (xor_of_8 (times_power p a) b (times_power-lt p a fits) octets.0)
      octets.1,
)

-- the value of a list at power(r), with its first two coefficients joined as at power(p)
joined : (r p a b : ℕ) (bs : List ℕ) → a < 256 → b < 256 → Octets bs
    → value_at r (bit_xor (times_power p a) b ∷ bs)
    ≡ bit_xor (times_power (r * length bs + p) a) (value_at r (b ∷ bs))
joined r p a b bs a_fits b_fits octets =
    let n = length bs in
    value_at-cons r (bit_xor (times_power p a) b) bs
    ∙ ap (λ m. bit_xor m (value_at r bs)) (times_power-xor (r * n) (times_power p a) b
    (times_power-lt p a a_fits) b_fits)
    ∙ xor_assoc (times_power (r * n) (times_power p a)) (times_power (r * n) b) (value_at r bs)
    ∙ ap (λ m. bit_xor m (bit_xor (times_power (r * n) b) (value_at r bs))) (sym (times_power-add (r * n) p a))
    ∙ ap (bit_xor (times_power (r * n + p) a)) (sym (value_at-cons r b bs))

-- At the point itself the value stays.
joined_same : (p a b : ℕ) (bs : List ℕ) → a < 256 → b < 256 → Octets bs
    → value_at p (bit_xor (times_power p a) b ∷ bs) ≡ value_at p (a ∷ b ∷ bs)
joined_same p a b bs a_fits b_fits octets =
    let place : p * length bs + p ≡ p * suc (length bs) = omega arith in
    joined p p a b bs a_fits b_fits octets
    ∙ ap (λ m. bit_xor (times_power m a) (value_at p (b ∷ bs))) place ∙ sym (value_at-cons p a (b ∷ bs))

-- the law of the division at a zero
value_at-quotient : (r p a : ℕ) (bs : List ℕ) → a < 256 → Octets bs → value_at p (a ∷ bs) ≡ 0
    → value_at r (a ∷ bs) ≡ bit_xor (times_power r (value_at r (quotient p a bs)))
    (times_power p (value_at r (quotient p a bs)))
value_at-quotient r p a [] fits octets root =
    let none : a ≡ 0 = sym (value_at-single p a) ∙ root in
    value_at-single r a ∙ none ∙ sym (ap (λ m. bit_xor (times_power r m) (times_power p m)) (nil_value r)
    ∙ ap (λ m. bit_xor m (times_power p 0)) (times_power-zero r) ∙ ap (bit_xor 0) (times_power-zero p))
value_at-quotient r p a (b ∷ bs) fits octets root =
    let n = length bs in
    let c = bit_xor (times_power p a) b in
    let c_fits = xor_of_8 (times_power p a) b (times_power-lt p a fits) octets.0 in
    let q = value_at r (quotient p c bs) in
    let q_fits = value_at-lt r (quotient p c bs) (Octets-quotient p c bs c_fits octets.1) in
    let hi = times_power (r * n) a in
    let hi_fits = times_power-lt (r * n) a fits in
    let up : r * suc n ≡ r + r * n = omega arith in
    let across : r * n + p ≡ p + r * n = omega arith in
    let rest = value_at-quotient r p c bs c_fits octets.1 (joined_same p a b bs fits octets.0 octets.1 ∙ root) in
    let later : value_at r (b ∷ bs) ≡ bit_xor (times_power p hi) (bit_xor (times_power r q) (times_power p q)) =
    sym (xor_twice (times_power p hi) (value_at r (b ∷ bs)))
    ∙ ap (bit_xor (times_power p hi)) (ap (λ m. bit_xor m (value_at r (b ∷ bs))) (sym (times_power-add p (r * n) a)
    ∙ ap (λ m. times_power m a) (sym across)) ∙ sym (joined r p a b bs fits octets.0 octets.1) ∙ rest) in
    let whole : value_at r (quotient p a (b ∷ bs)) ≡ bit_xor hi q =
    value_at-cons r a (quotient p c bs)
    ∙ ap (λ m. bit_xor (times_power (r * m) a) q) (length-quotient p c bs) in
    value_at-cons r a (b ∷ bs)
    ∙ ap (λ m. bit_xor m (value_at r (b ∷ bs))) (ap (λ m. times_power m a) up ∙ times_power-add r (r * n) a)
    ∙ ap (bit_xor (times_power r hi)) later
    ∙ sym (xor_assoc (times_power r hi) (times_power p hi) (bit_xor (times_power r q) (times_power p q)))
    ∙ xor_pairs (times_power r hi) (times_power p hi) (times_power r q) (times_power p q)
    ∙ ap (λ m. bit_xor m (bit_xor (times_power p hi) (times_power p q))) (sym (times_power-xor r hi q hi_fits q_fits))
    ∙ ap (bit_xor (times_power r (bit_xor hi q))) (sym (times_power-xor p hi q hi_fits q_fits))
    ∙ ap (λ m. bit_xor (times_power r m) (times_power p m)) (sym whole)

-- a quotient of 0 without a remainder
weightless : (p a : ℕ) (bs : List ℕ) → weight (quotient p a bs) ≡ 0 → value_at p (a ∷ bs) ≡ 0 → weight (a ∷ bs) ≡ 0
weightless p a [] none root =
    let a_zero : a ≡ 0 = sym (value_at-single p a) ∙ root in
    ap (λ n. weight (n ∷ [])) a_zero ∙ weight-zero [] ∙ weight_nil
weightless p a (b ∷ bs) none root =
    elim (cases_eq a 0) [
      | inl a_zero ↦
          let c_is : bit_xor (times_power p a) b ≡ b =
          ap (λ n. bit_xor (times_power p n) b) a_zero ∙ ap (λ n. bit_xor n b) (times_power-zero p) ∙ xor_zero_l b in
          let later : weight (quotient p b bs) ≡ 0 =
          sym (ap (λ n. weight (a ∷ quotient p n bs)) c_is
          ∙ ap (λ n. weight (n ∷ quotient p b bs)) a_zero ∙ weight-zero (quotient p b bs)) ∙ none in
          let at_root : value_at p (b ∷ bs) ≡ 0 =
          sym (ap (λ n. value_at p (n ∷ b ∷ bs)) a_zero ∙ value_at-zero p (b ∷ bs)) ∙ root in
          ap (λ n. weight (n ∷ b ∷ bs)) a_zero ∙ weight-zero (b ∷ bs) ∙ weightless p b bs later at_root
      | inr some ↦
          absurd (omega (arith, weight-some a (quotient p (bit_xor (times_power p a) b) bs) some, none))
    ]

-- how many of power(0) to power(n - 1) are zeros of a list
unfoldable pub roots_below : List ℕ → ℕ → ℕ
roots_below l zero = 0
roots_below l (suc p) = cond (eqb (value_at p l) 0) 1 0 + roots_below l p

-- What is 0 wherever l is has at least as many zeros.
roots_more : (l m : List ℕ) (n : ℕ) → ((r : ℕ) → r < n → value_at r l ≡ 0 → value_at r m ≡ 0)
    → roots_below l n ≤ roots_below m n
unfolding roots_below
roots_more l m zero zeros = omega arith
roots_more l m (suc p) zeros =
    let rest = roots_more l m p (λ r below root. zeros r (omega arith) root) in
    elim (cases_eq (value_at p l) 0) [
      | inl root ↦
          let one = ap (λ t. cond t 1 0 + roots_below l p) (eq-eqb (value_at p l) 0 root) in
          let other = ap (λ t. cond t 1 0 + roots_below m p) (eq-eqb (value_at p m) 0 (zeros p (omega arith) root)) in
          omega (arith, one, other, rest)
      | inr none ↦
          let one = ap (λ t. cond t 1 0 + roots_below l p) (ne_eqb (value_at p l) 0 none) in
          omega (arith, one, rest)
    ]

pub few_roots : (n : ℕ) (l : List ℕ) → n ≤ 255 → Octets l → length l ≤ roots_below l n → weight l ≡ 0
unfolding roots_below
few_roots n [] short octets many = weight_nil
few_roots zero (a ∷ bs) short octets many = absurd (omega arith)
few_roots (suc p) (a ∷ bs) short octets many =
    elim (cases_eq (value_at p (a ∷ bs)) 0) [
      | inl root ↦
          let q = quotient p a bs in
          let q_octets = Octets-quotient p a bs octets.0 octets.1 in
          let one = ap (λ t. cond t 1 0 + roots_below (a ∷ bs) p) (eq-eqb (value_at p (a ∷ bs)) 0 root) in
          let zeros : (r : ℕ) → r < p → value_at r (a ∷ bs) ≡ 0 → value_at r q ≡ 0 = λ r below at_r.
          zero_beside r p (value_at r q) below (omega arith) (value_at-lt r q q_octets)
          (sym (value_at-quotient r p a bs octets.0 octets.1 root) ∙ at_r) in
          weightless p a bs (few_roots p q (omega arith) q_octets
          (omega (arith, one, length-quotient p a bs, roots_more (a ∷ bs) q p zeros))) root
      | inr none ↦
          let one = ap (λ t. cond t 1 0 + roots_below (a ∷ bs) p) (ne_eqb (value_at p (a ∷ bs)) 0 none) in
          few_roots p (a ∷ bs) (omega arith) octets (omega (arith, one))
    ]
