-- The sum of a list's coefficients times the values of a word is a value of the word scaled: each octet times the
-- list's
-- value at the octet's own point. Two sums change places, and nothing else happens.
use Rattle.reed_solomon.proofs.Common.{◌≡◌, ℕ, zero, suc, ◌+◌, ◌*◌, ◌<◌, ◌≤◌, ◌≢◌, Bool, true, false, cond, eqb}
use Rattle.reed_solomon.proofs.Common.{bit_xor, List, [], ◌∷◌, length, get_or, refl, ap, ◌∙◌, sym, inl, inr, arith}
use Rattle.reed_solomon.proofs.Common.{xor_zero_l, xor_zero_r, cases_Bool, cases_eq, eq-eqb, ne_eqb, times_power}
use Rattle.reed_solomon.proofs.Common.{value_at, product, added, dot, values_down, octet_before, scaled}
use Rattle.reed_solomon.proofs.Common.{weight_outside}
use Rattle.reed_solomon.proofs.FieldLemmas.{times_power-lt, times_power-zero, times_power-add, product-lt, product-zero}
use Rattle.reed_solomon.proofs.FieldLemmas.{zero-product, product-xor, product-times_power, product_comm}
use Rattle.reed_solomon.proofs.FieldLemmas.{zero_from_product}
use Rattle.reed_solomon.proofs.ValueLemmas.{Octets, value_at-lt, value_at-added, weight}
use Rattle.reed_solomon.proofs.GeneratorLemmas.{value_at-cons}
use Rattle.reed_solomon.proofs.DistanceLemmas.{weight-zero, weight-some}

-- a word scaled by the one coefficient a of the n-th power
abbrev scaled_by_power : ℕ → ℕ → List ℕ → List ℕ
scaled_by_power a n [] = []
scaled_by_power a n (x ∷ xs) = product x (times_power (length xs * n) a) ∷ scaled_by_power a n xs

pub length-scaled : (l w : List ℕ) → length (scaled l w) ≡ length w
length-scaled l [] = refl
length-scaled l (x ∷ xs) = ap suc (length-scaled l xs)

length-scaled_by_power : (a n : ℕ) (w : List ℕ) → length (scaled_by_power a n w) ≡ length w
length-scaled_by_power a n [] = refl
length-scaled_by_power a n (x ∷ xs) = ap suc (length-scaled_by_power a n xs)

pub Octets-scaled : (l w : List ℕ) → Octets l → Octets (scaled l w)
Octets-scaled l [] octets = tt
Octets-scaled l (x ∷ xs) octets = (
  product-lt x (value_at (length xs) l) (value_at-lt (length xs) l octets),
  Octets-scaled l xs octets,
)

Octets-scaled_by_power : (a n : ℕ) (w : List ℕ) → a < 256 → Octets (scaled_by_power a n w)
Octets-scaled_by_power a n [] fits = tt
Octets-scaled_by_power a n (x ∷ xs) fits = (
  product-lt x (times_power (length xs * n) a) (times_power-lt (length xs * n) a fits),
  Octets-scaled_by_power a n xs fits,
)

scaled-cons : (a : ℕ) (l w : List ℕ) → a < 256 → Octets l
    → scaled (a ∷ l) w ≡ added (scaled_by_power a (length l) w) (scaled l w)
scaled-cons a l [] fits octets = refl
scaled-cons a l (x ∷ xs) fits octets =
    let k = length xs in
    let head : product x (value_at k (a ∷ l))
    ≡ bit_xor (product x (times_power (k * length l) a)) (product x (value_at k l)) =
    ap (product x) (value_at-cons k a l)
    ∙ product-xor x (times_power (k * length l) a) (value_at k l) (times_power-lt (k * length l) a fits)
    (value_at-lt k l octets) in
    ap (λ n. n ∷ scaled (a ∷ l) xs) head
    ∙ ap (λ ys. bit_xor (product x (times_power (k * length l) a)) (product x (value_at k l)) ∷ ys)
    (scaled-cons a l xs fits octets)

value_at-scaled_by_power : (j a n : ℕ) (w : List ℕ) → a < 256 → Octets w
    → value_at j (scaled_by_power a n w) ≡ product a (value_at (j + n) w)
unfolding value_at
value_at-scaled_by_power j a n [] fits octets = sym (product-zero a)
value_at-scaled_by_power j a n (x ∷ xs) fits octets =
    let k = length xs in
    let place : j * k + k * n ≡ (j + n) * k = omega arith in
    let rest = value_at j (scaled_by_power a n xs) in
    let part : times_power (j * k) (product x (times_power (k * n) a)) ≡ product a (times_power ((j + n) * k) x) =
    ap (times_power (j * k)) (product-times_power x (k * n) a
    ∙ ap (times_power (k * n)) (product_comm x a octets.0 fits))
    ∙ sym (times_power-add (j * k) (k * n) (product a x)) ∙ ap (λ m. times_power m (product a x)) place
    ∙ sym (product-times_power a ((j + n) * k) x) in
    ap (λ m. bit_xor (times_power (j * m) (product x (times_power (k * n) a))) rest) (length-scaled_by_power a n xs)
    ∙ ap (λ m. bit_xor m rest) part
    ∙ ap (bit_xor (product a (times_power ((j + n) * k) x))) (value_at-scaled_by_power j a n xs fits octets.1)
    ∙ sym (product-xor a (times_power ((j + n) * k) x) (value_at (j + n) xs) (times_power-lt ((j + n) * k) x octets.0)
    (value_at-lt (j + n) xs octets.1))

value_at-scaled_nil : (j : ℕ) (w : List ℕ) → value_at j (scaled [] w) ≡ 0
unfolding value_at
value_at-scaled_nil j [] = refl
value_at-scaled_nil j (x ∷ xs) =
    ap (λ n. bit_xor (times_power (j * length (scaled [] xs)) n) (value_at j (scaled [] xs))) (product-zero x)
    ∙ ap (λ n. bit_xor n (value_at j (scaled [] xs))) (times_power-zero (j * length (scaled [] xs)))
    ∙ xor_zero_l (value_at j (scaled [] xs)) ∙ value_at-scaled_nil j xs

-- The change of the two sums.
pub dot-values_down : (first : ℕ) (l w : List ℕ) → Octets l → Octets w
    → dot l (values_down w first (length l)) ≡ value_at first (scaled l w)
unfolding dot values_down
dot-values_down first [] w octets w_octets = sym (value_at-scaled_nil first w)
dot-values_down first (a ∷ l) w octets w_octets =
    let n = length l in
    let v = value_at first (scaled l w) in
    ap (bit_xor (product a (value_at (first + n) w))) (dot-values_down first l w octets.1 w_octets)
    ∙ ap (λ m. bit_xor m v) (sym (value_at-scaled_by_power first a n w octets.0 w_octets))
    ∙ sym (ap (value_at first) (scaled-cons a l w octets.0 octets.1)
    ∙ value_at-added first (scaled_by_power a n w) (scaled l w)
    (length-scaled_by_power a n w ∙ sym (length-scaled l w)) (Octets-scaled_by_power a n w octets.0)
    (Octets-scaled l w octets.1))

-- ---- which octets a scaled word keeps

suc_zero : (x : ℕ) → suc x ≡ 0 → ⊥
suc_zero x e = absurd (omega arith)

pub weight-scaled : (l w : List ℕ) → weight (scaled l w) ≤ weight w
weight-scaled l [] = omega arith
weight-scaled l (zero ∷ xs) =
    let none = ap (λ n. weight (n ∷ scaled l xs)) (zero-product (value_at (length xs) l)) ∙ weight-zero (scaled l xs) in
    omega (arith, none, weight-zero xs, weight-scaled l xs)
weight-scaled l (suc x ∷ xs) =
    let y = product (suc x) (value_at (length xs) l) in
    let one = weight-some (suc x) xs (λ e. absurd (suc_zero x e)) in
    elim (cases_eq y 0) [
      | inl none ↦
          let rest = ap (λ n. weight (n ∷ scaled l xs)) none ∙ weight-zero (scaled l xs) in
          omega (arith, rest, one, weight-scaled l xs)
      | inr some ↦ omega (arith, weight-some y (scaled l xs) some, one, weight-scaled l xs)
    ]

-- the octets of a scaled word
pub octet_before-scaled : (l w : List ℕ) (k : ℕ) → k < length w
    → octet_before k (scaled l w) ≡ product (octet_before k w) (value_at k l)
unfolding octet_before
octet_before-scaled l [] k below = absurd (omega arith)
octet_before-scaled l (x ∷ xs) k below =
    let n = length xs in
    let y = product x (value_at n l) in
    let size = length-scaled l xs in
    elim (cases_eq k n) [
      | inl here ↦
          ap (λ t. cond t y (octet_before k (scaled l xs))) (eq-eqb k (length (scaled l xs)) (here ∙ sym size))
          ∙ ap (λ m. product x (value_at m l)) (sym here)
          ∙ ap (λ m. product m (value_at k l)) (sym (ap (λ t. cond t x (octet_before k xs)) (eq-eqb k n here)))
      | inr other ↦
          ap (λ t. cond t y (octet_before k (scaled l xs))) (ne_eqb k (length (scaled l xs)) (λ e. other (e ∙ size)))
          ∙ octet_before-scaled l xs k (omega arith)
          ∙ ap (λ m. product m (value_at k l)) (sym (ap (λ t. cond t x (octet_before k xs)) (ne_eqb k n other)))
    ]

-- ---- how many octets a scaled word keeps

weight_more : (y : ℕ) (ys : List ℕ) → weight (y ∷ ys) ≤ suc (weight ys)
weight_more y ys =
    elim (cases_eq y 0) [
      | inl none ↦ omega (arith, ap (λ n. weight (n ∷ ys)) none ∙ weight-zero ys)
      | inr some ↦ omega (arith, weight-some y ys some)
    ]

pub weight_outside-cons : (flags : List Bool) (x : ℕ) (xs : List ℕ) → weight_outside flags (x ∷ xs)
    ≡ cond (get_or flags (length xs) false) 0 (cond (eqb x 0) 0 1) + weight_outside flags xs
unfolding weight_outside
weight_outside-cons flags x xs = refl

nil_weight : (flags : List Bool) (l : List ℕ) → weight (scaled l []) ≡ weight_outside flags []
unfolding weight weight_outside
nil_weight flags l = refl

abbrev nothing : ℕ
nothing = 0

abbrev single : ℕ
single = 1

-- A list that is 0 at the flagged places leaves no more than the octets outside them.
pub weight-scaled_outside : (flags : List Bool) (l w : List ℕ)
    → ((q : ℕ) → q < length w → get_or flags q false ≡ true → value_at q l ≡ 0)
    → weight (scaled l w) ≤ weight_outside flags w
weight-scaled_outside flags l [] zeros = omega (arith, nil_weight flags l)
weight-scaled_outside flags l (x ∷ xs) zeros =
    let n = length xs in
    let y = product x (value_at n l) in
    let rest = weight-scaled_outside flags l xs (λ q below. zeros q (omega arith)) in
    let counted = weight_outside-cons flags x xs in
    let lighter : y ≡ 0 → weight (y ∷ scaled l xs) ≡ weight (scaled l xs) =
    λ none. ap (λ m. weight (m ∷ scaled l xs)) none ∙ weight-zero (scaled l xs) in
    elim (cases_Bool (get_or flags n false)) [
      | inl flagged ↦
          let less = lighter (ap (product x) (zeros n (omega arith) flagged) ∙ product-zero x) in
          omega (arith, less, rest, counted)
      | inr known ↦
          elim (cases_eq x 0) [
            | inl x_zero ↦
                let less = lighter (ap (λ m. product m (value_at n l)) x_zero ∙ zero-product (value_at n l)) in
                omega (arith, less, rest, counted)
            | inr x_some ↦
                let one : cond (get_or flags n false) nothing (cond (eqb x 0) nothing single) ≡ single =
                ap (λ b. cond b nothing (cond (eqb x 0) nothing single)) known
                ∙ ap (λ t. cond t nothing single) (ne_eqb x 0 x_some) in
                omega (arith, one, rest, counted, weight_more y (scaled l xs))
          ]
    ]

-- A word that the list scales to 0 has octets only at zeros of the list.
pub zero_at_octet : (l w : List ℕ) (k : ℕ) → Octets l → weight (scaled l w) ≡ 0 → k < length w
    → octet_before k w ≢ 0 → value_at k l ≡ 0
unfolding octet_before
zero_at_octet l [] k octets none below some = absurd (omega arith)
zero_at_octet l (x ∷ xs) k octets none below some =
    let y = product x (value_at (length xs) l) in
    elim (cases_eq y 0) [
      | inl y_zero ↦
          let rest : weight (scaled l xs) ≡ 0 =
          sym (ap (λ n. weight (n ∷ scaled l xs)) y_zero ∙ weight-zero (scaled l xs)) ∙ none in
          elim (cases_eq k (length xs)) [
            | inl here ↦
                let is_x : octet_before k (x ∷ xs) ≡ x =
                ap (λ t. cond t x (octet_before k xs)) (eq-eqb k (length xs) here) in
                let x_some : 0 < x = omega (arith, some, is_x) in
                ap (λ n. value_at n l) here
                ∙ zero_from_product x (value_at (length xs) l) x_some (value_at-lt (length xs) l octets) y_zero
            | inr other ↦
                let later : octet_before k (x ∷ xs) ≡ octet_before k xs =
                ap (λ t. cond t x (octet_before k xs)) (ne_eqb k (length xs) other) in
                zero_at_octet l xs k octets rest (omega arith) (λ e. some (later ∙ e))
          ]
      | inr y_some ↦ absurd (omega (arith, weight-some y (scaled l xs) y_some))
    ]

-- a list that is 0 at each octet of a word but the one with k others after it
abbrev pub IsAloneAt : ℕ → List ℕ → List ℕ → Type 0
IsAloneAt k l [] = Unit {0}
IsAloneAt k l (x ∷ xs) = (length xs ≢ k → product x (value_at (length xs) l) ≡ 0) × IsAloneAt k l xs

octet_before-past : (k : ℕ) (w : List ℕ) → length w ≤ k → octet_before k w ≡ 0
unfolding octet_before
octet_before-past k [] past = refl
octet_before-past k (x ∷ xs) past =
    ap (λ t. cond t x (octet_before k xs)) (ne_eqb k (length xs) (λ e. absurd (omega arith)))
    ∙ octet_before-past k xs (omega arith)

-- Such a list leaves that octet alone.
pub value_at-alone : (j k : ℕ) (l w : List ℕ) → IsAloneAt k l w
    → value_at j (scaled l w) ≡ times_power (j * k) (product (octet_before k w) (value_at k l))
unfolding octet_before value_at
value_at-alone j k l [] alone = sym (ap (times_power (j * k)) (zero-product (value_at k l)) ∙ times_power-zero (j * k))
value_at-alone j k l (x ∷ xs) alone =
    let n = length xs in
    let y = product x (value_at n l) in
    let rest = value_at-alone j k l xs alone.1 in
    let size = length-scaled l xs in
    let total = λ (m : ℕ). bit_xor m (value_at j (scaled l xs)) in
    elim (cases_eq k n) [
      | inl here ↦
          let is_x : octet_before k (x ∷ xs) ≡ x = ap (λ t. cond t x (octet_before k xs)) (eq-eqb k n here) in
          let none : value_at j (scaled l xs) ≡ 0 =
          rest ∙ ap (λ m. times_power (j * k) (product m (value_at k l))) (octet_before-past k xs (omega arith))
          ∙ ap (times_power (j * k)) (zero-product (value_at k l)) ∙ times_power-zero (j * k) in
          ap (λ m. bit_xor (times_power (j * m) y) (value_at j (scaled l xs))) (size ∙ sym here)
          ∙ ap (bit_xor (times_power (j * k) y)) none ∙ xor_zero_r (times_power (j * k) y)
          ∙ ap (λ m. times_power (j * k) (product x (value_at m l))) (sym here)
          ∙ ap (λ m. times_power (j * k) (product m (value_at k l))) (sym is_x)
      | inr other ↦
          let later : octet_before k (x ∷ xs) ≡ octet_before k xs =
          ap (λ t. cond t x (octet_before k xs)) (ne_eqb k n other) in
          ap (λ m. bit_xor (times_power (j * length (scaled l xs)) m) (value_at j (scaled l xs)))
          (alone.0 (λ e. other (sym e)))
          ∙ ap total (times_power-zero (j * length (scaled l xs))) ∙ xor_zero_l (value_at j (scaled l xs)) ∙ rest
          ∙ ap (λ m. times_power (j * k) (product m (value_at k l))) (sym later)
    ]
