-- Where a word is wrong, and by how much.
use Rattle.reed_solomon.proofs.Common.{◌≡◌, ◌≢◌, ℕ, zero, suc, ◌+◌, ◌-◌, ◌*◌, ◌<◌, ◌≤◌, Bool, true, false, cond, eqb}
use Rattle.reed_solomon.proofs.Common.{bit_xor, List, [], ◌∷◌, length, get_or, take, drop, refl, ap, subst, ◌∙◌, sym}
use Rattle.reed_solomon.proofs.Common.{inl, inr, arith, xor_zero_r, cases_eq, eq-eqb, ne_eqb, length-take, times_power}
use Rattle.reed_solomon.proofs.Common.{value_at, Vanishes, product, added, dot, values_down, octet_before, IsWrong, scaled}
use Rattle.reed_solomon.proofs.Common.{weight_outside}
use Rattle.reed_solomon.proofs.FieldLemmas.{times_power-add, times_power_rounds, product-lt, zero-product, product-zero}
use Rattle.reed_solomon.proofs.FieldLemmas.{power_of_zero, product_comm, product_assoc, product-one, zero_from_product}
use Rattle.reed_solomon.proofs.ValueLemmas.{Octets, Octets-added, length-added, get_or-added, value_at-lt}
use Rattle.reed_solomon.proofs.ValueLemmas.{value_at-added, weight}
use Rattle.reed_solomon.proofs.Vandermonde.{few_zeros}
use Rattle.reed_solomon.proofs.DistanceLemmas.{weight-added, octets_of_all}
use Rattle.reed_solomon.proofs.ScaledLemmas.{length-scaled, Octets-scaled, dot-values_down, weight-scaled, octet_before-scaled}
use Rattle.reed_solomon.proofs.ScaledLemmas.{weight-scaled_outside, zero_at_octet, IsAloneAt, value_at-alone}
use Rattle.reed_solomon.proofs.KernelLemmas.{dot-take}

-- ---- lists of values

pub length-values_down : (w : List ℕ) (first n : ℕ) → length (values_down w first n) ≡ n
unfolding values_down
length-values_down w first zero = refl
length-values_down w first (suc n) = ap suc (length-values_down w first n)

pub values_down-suc : (w : List ℕ) (first n : ℕ)
    → values_down w first (suc n) ≡ value_at (first + n) w ∷ values_down w first n
unfolding values_down
values_down-suc w first n = refl

pub values_down-zero : (w : List ℕ) (first n : ℕ) → n ≡ 0 → values_down w first n ≡ []
unfolding values_down
values_down-zero w first n none = ap (values_down w first) none

drop-values_down : (w : List ℕ) (first k n : ℕ) → drop k (values_down w first (k + n)) ≡ values_down w first n
unfolding values_down
drop-values_down w first zero n = ap (values_down w first) (omega arith)
drop-values_down w first (suc k) n =
    let more : suc k + n ≡ suc (k + n) = omega arith in
    ap (λ m. drop (suc k) (values_down w first m)) more ∙ drop-values_down w first k n

take-values_down : (w : List ℕ) (first k n : ℕ) → take n (values_down w first (k + n)) ≡ values_down w (first + k) n
unfolding values_down
take-values_down w first k zero = refl
take-values_down w first k (suc n) =
    let more : k + suc n ≡ suc (k + n) = omega arith in
    let place : first + (k + n) ≡ first + k + n = omega arith in
    ap (λ m. take (suc n) (values_down w first m)) more
    ∙ ap (λ m. value_at m w ∷ take n (values_down w first (k + n))) place
    ∙ ap (λ xs. value_at (first + k + n) w ∷ xs) (take-values_down w first k n)

-- so many values in a row
values_window : (w : List ℕ) (first j i n count : ℕ) → i + n + j ≡ first + count → first ≤ j
    → take n (drop i (values_down w first count)) ≡ values_down w j n
values_window w first j i n count sum from =
    let k = j - first in
    let whole : count ≡ i + (k + n) = omega arith in
    let place : first + k ≡ j = omega arith in
    ap (λ m. take n (drop i (values_down w first m))) whole ∙ ap (take n) (drop-values_down w first i (k + n))
    ∙ take-values_down w first k n ∙ ap (λ m. values_down w m n) place

-- words with the same values
pub same_values : (u w : List ℕ) (first count : ℕ)
    → ((j : ℕ) → first ≤ j → j < first + count → value_at j u ≡ value_at j w)
    → values_down u first count ≡ values_down w first count
unfolding values_down
same_values u w first zero same = refl
same_values u w first (suc n) same =
    ap (λ m. m ∷ values_down u first n) (same (first + n) (omega arith) (omega arith))
    ∙ ap (λ xs. value_at (first + n) w ∷ xs)
    (same_values u w first n (λ j from below. same j from (omega arith)))

-- ---- where a word is wrong

-- A list whose sums with the values of a word are 0 is 0 at each octet of the word.
pub zero_at_errors : (first most : ℕ) (l errors : List ℕ) → length l ≡ most + 1 → Octets l → Octets errors
    → length errors ≤ 255 → weight errors ≤ most
    → ((i : ℕ) → i < most → dot l (take (most + 1) (drop i (values_down errors first (2 * most)))) ≡ 0)
    → (q : ℕ) → q < length errors → octet_before q errors ≢ 0 → value_at q l ≡ 0
zero_at_errors first most l errors size l_octets octets short light met q below some =
    let vanishes : Vanishes first most (scaled l errors) = λ j from j_below.
    let i = first + most - 1 - j in
    let window : take (most + 1) (drop i (values_down errors first (2 * most))) ≡ values_down errors j (most + 1) =
    values_window errors first j i (most + 1) (2 * most) (omega arith) from in
    sym (dot-values_down j l errors l_octets octets) ∙ ap (λ n. dot l (values_down errors j n)) size
    ∙ ap (dot l) (sym window) ∙ met i (omega arith) in
    let gone = few_zeros most (scaled l errors) first (Octets-scaled l errors l_octets)
    (omega (arith, length-scaled l errors)) (omega (arith, weight-scaled l errors)) vanishes in
    zero_at_octet l errors q l_octets gone below some

-- ---- by how much

octet_before-here : (x : ℕ) (xs : List ℕ) → octet_before (length xs) (x ∷ xs) ≡ x
unfolding octet_before
octet_before-here x xs = ap (λ t. cond t x (octet_before (length xs) xs)) (eq-eqb (length xs) (length xs) refl)

octet_before-later : (q x : ℕ) (xs : List ℕ) → q < length xs → octet_before q (x ∷ xs) ≡ octet_before q xs
unfolding octet_before
octet_before-later q x xs below =
    ap (λ t. cond t x (octet_before q xs)) (ne_eqb q (length xs) (λ e. absurd (omega arith)))

-- by places from the front
pub octet_before-at : (w : List ℕ) (k q : ℕ) → k + q + 1 ≡ length w → octet_before q w ≡ get_or w k 0
octet_before-at [] k q place = absurd (omega arith)
octet_before-at (x ∷ xs) zero q place =
    let last : q ≡ length xs = omega arith in
    ap (λ n. octet_before n (x ∷ xs)) last ∙ octet_before-here x xs
octet_before-at (x ∷ xs) (suc k) q place =
    octet_before-later q x xs (omega arith) ∙ octet_before-at xs k q (omega arith)

alone_from : (p : ℕ) (l w : List ℕ)
    → ((q : ℕ) → q < length w → q ≢ p → octet_before q w ≢ 0 → value_at q l ≡ 0) → IsAloneAt p l w
alone_from p l [] zeros = tt
alone_from p l (x ∷ xs) zeros = (
  λ other.
      elim (cases_eq x 0) [
        | inl none ↦ ap (λ n. product n (value_at (length xs) l)) none ∙ zero-product (value_at (length xs) l)
        | inr some ↦
            ap (product x) (zeros (length xs) (omega arith) other (λ e. some (sym (octet_before-here x xs) ∙ e)))
            ∙ product-zero x
      ],
  alone_from p l xs (λ q below other some. zeros q (omega arith) other
      (λ e. some (sym (octet_before-later q x xs below) ∙ e))),
)

octet_before-lt : (q : ℕ) (w : List ℕ) → Octets w → octet_before q w < 256
unfolding octet_before
octet_before-lt q [] octets = omega arith
octet_before-lt q (x ∷ xs) octets =
    let P : ℕ → Type 0 = λ n. n < 256 in
    elim (cases_eq q (length xs)) [
      | inl here ↦
          subst P (sym (ap (λ t. cond t x (octet_before q xs)) (eq-eqb q (length xs) here))) octets.0
      | inr other ↦
          subst P (sym (ap (λ t. cond t x (octet_before q xs)) (ne_eqb q (length xs) other)))
          (octet_before-lt q xs octets.1)
    ]

round_trip : (first p : ℕ) → first < 255 → (255 - first) * p + first * p ≡ p * 255 + 0
round_trip first p low =
    let parts : 255 - first + first ≡ 255 = omega arith in
    let joined : (255 - first) * p + first * p ≡ (255 - first + first) * p = omega arith in
    joined ∙ ap (λ m. m * p) parts ∙ omega arith

-- The share of one wrong octet, if the list is 0 at all others.
pub error_value : (first p count inverted : ℕ) (all errors : List ℕ) → first < 255 → length all ≤ count
    → Octets all → Octets errors → inverted < 256 → product inverted (value_at p all) ≡ 1
    → ((q : ℕ) → q < length errors → q ≢ p → octet_before q errors ≢ 0 → value_at q all ≡ 0)
    → product inverted (times_power ((255 - first) * p) (dot all (drop (count - length all)
    (values_down errors first count)))) ≡ octet_before p errors
error_value first p count inverted all errors low few all_octets octets fits one zeros =
    let n = length all in
    let e = octet_before p errors in
    let v = value_at p all in
    let v_fits = value_at-lt p all all_octets in
    let e_fits = octet_before-lt p errors octets in
    let whole : count ≡ count - n + n = omega arith in
    let sum : dot all (drop (count - n) (values_down errors first count)) ≡ times_power (first * p) (product e v) =
    ap (dot all) (ap (λ m. drop (count - n) (values_down errors first m)) whole
    ∙ drop-values_down errors first (count - n) n)
    ∙ dot-values_down first all errors all_octets octets
    ∙ value_at-alone first p all errors (alone_from p all errors zeros) in
    let round : (255 - first) * p + first * p ≡ p * 255 + 0 = round_trip first p low in
    let share : times_power ((255 - first) * p) (times_power (first * p) (product e v)) ≡ product e v =
    sym (times_power-add ((255 - first) * p) (first * p) (product e v))
    ∙ ap (λ m. times_power m (product e v)) round
    ∙ times_power_rounds p 0 (product e v) (product-lt e v v_fits) ∙ power_of_zero (product e v) in
    ap (λ m. product inverted (times_power ((255 - first) * p) m)) sum ∙ ap (product inverted) share
    ∙ ap (product inverted) (product_comm e v e_fits v_fits) ∙ sym (product_assoc inverted v e v_fits e_fits)
    ∙ ap (λ m. product m e) one ∙ product_comm 1 e (omega arith) e_fits ∙ product-one e e_fits

-- ---- where the errors of a word are told

-- The kernel of the values of errors is 0 wherever there is an error.
errors_at_roots : (first most : ℕ) (syndromes errors k : List ℕ) (roots : List Bool) → length k ≡ 33
    → Octets (take (most + 1) k) → Octets errors → length errors ≡ 255 → most < 33
    → syndromes ≡ values_down errors first (2 * most)
    → ((i : ℕ) → i < most → dot k (take (most + 1) (drop i syndromes)) ≡ 0)
    → ((p : ℕ) → p < 255 → get_or roots p false ≡ eqb (value_at p (take (most + 1) k)) 0)
    → weight errors ≤ most
    → (q : ℕ) → q < 255 → octet_before q errors ≢ 0 → get_or roots q false ≡ true
errors_at_roots first most syndromes errors k roots k_size l_octets octets size low same met are_roots light q below some =
    let l = take (most + 1) k in
    let met_l : (i : ℕ) → i < most → dot l (take (most + 1) (drop i (values_down errors first (2 * most)))) ≡ 0 =
    λ i inside. dot-take (most + 1) k (take (most + 1) (drop i (values_down errors first (2 * most))))
    (omega (arith, length-take (most + 1) (drop i (values_down errors first (2 * most)))))
    ∙ ap (λ xs. dot k (take (most + 1) (drop i xs))) (sym same) ∙ met i inside in
    are_roots q below
    ∙ eq-eqb (value_at q l) 0 (zero_at_errors first most l errors (omega (arith, length-take (most + 1) k)) l_octets
    octets (omega arith) light met_l q (omega arith) some)

-- a sum of the values of errors as a value of the errors scaled
pub scaled_value : (first j i count : ℕ) (factors syndromes errors : List ℕ)
    → i + length factors + j ≡ first + count → first ≤ j → Octets factors → Octets errors
    → syndromes ≡ values_down errors first count
    → dot factors (take (length factors) (drop i syndromes)) ≡ value_at j (scaled factors errors)
scaled_value first j i count factors syndromes errors sum from factors_octets octets is =
    ap (λ xs. dot factors (take (length factors) (drop i xs))) is
    ∙ ap (dot factors) (values_window errors first j i (length factors) count sum from)
    ∙ dot-values_down j factors errors factors_octets octets

-- The kernel of the values of errors that are scaled is 0 wherever there is an error, if the scale is not.
pub scaled_errors_at_roots : (first most : ℕ) (syndromes factors errors k : List ℕ) (unknown roots : List Bool)
    → length k ≡ 33 → Octets (take (most + 1) k) → Octets factors → Octets errors → length errors ≡ 255 → most < 33
    → syndromes ≡ values_down (scaled factors errors) first (2 * most)
    → ((i : ℕ) → i < most → dot k (take (most + 1) (drop i syndromes)) ≡ 0)
    → ((p : ℕ) → p < 255 → get_or roots p false ≡ eqb (value_at p (take (most + 1) k)) 0)
    → ((q : ℕ) → q < 255 → get_or unknown q false ≡ true → value_at q factors ≡ 0)
    → weight_outside unknown errors ≤ most
    → (q : ℕ) → q < 255 → value_at q factors ≢ 0 → octet_before q errors ≢ 0 → get_or roots q false ≡ true
scaled_errors_at_roots first most syndromes factors errors k unknown roots k_size l_octets factors_octets octets size low
    same met are_roots zeros light q below apart some =
    let e = octet_before q errors in
    let e_some : 0 < e = omega (arith, some) in
    let v_fits = value_at-lt q factors factors_octets in
    errors_at_roots first most syndromes (scaled factors errors) k roots k_size l_octets
    (Octets-scaled factors errors factors_octets) (length-scaled factors errors ∙ size) low same met are_roots
    (omega (arith, light, weight-scaled_outside unknown factors errors (λ p inside. zeros p (omega arith)))) q below
    (λ none. apart (zero_from_product e (value_at q factors) e_some v_fits
    (sym (octet_before-scaled factors errors q (omega arith)) ∙ none)))

-- ---- the errors of a word beside a codeword

pub errors_values : (first count : ℕ) (unknown : List Bool) (word v : List ℕ) → IsWrong first count unknown word v
    → Octets word → Octets v → values_down word first count ≡ values_down (added word v) first count
errors_values first count unknown word v wrong octets v_octets =
    same_values word (added word v) first count (λ j from below.
    sym (value_at-added j word v (sym wrong.size) octets v_octets
    ∙ ap (bit_xor (value_at j word)) (wrong.vanishes j from below) ∙ xor_zero_r (value_at j word)))

-- the octet by which a word is wrong
pub error_is : (word v : List ℕ) (k p : ℕ) → k + p + 1 ≡ length word → length v ≡ length word
    → octet_before p (added word v) ≡ bit_xor (get_or word k 0) (get_or v k 0)
error_is word v k p place size =
    octet_before-at (added word v) k p (place ∙ sym (length-added word v (sym size)))
    ∙ get_or-added word v k (sym size)
