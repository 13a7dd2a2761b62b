-- The polynomial with all roots but one, and how many roots there are.
use Rattle.reed_solomon.proofs.Common.{◌≡◌, ◌≢◌, ℕ, zero, suc, ◌+◌, ◌<◌, ◌≤◌, Bool, true, false, cond, eqb, bit_xor}
use Rattle.reed_solomon.proofs.Common.{List, [], ◌∷◌, ◌++◌, length, get_or, set, take, refl, ap, ◌∙◌, sym, inl, inr, arith}
use Rattle.reed_solomon.proofs.Common.{take_all, xor_self, cases_lt, take_more, length-take, times_power, power}
use Rattle.reed_solomon.proofs.Common.{value_at, with_root, count_true}
use Rattle.std.proofs.lemmas.List.{get_or-take}
use Rattle.reed_solomon.proofs.FieldLemmas.{same_from_xor, times_power-zero, power-product, same_power}
use Rattle.reed_solomon.proofs.ValueLemmas.{Octets, value_at-lt, weight}
use Rattle.reed_solomon.proofs.GeneratorLemmas.{value_at-single, value_at-with_root}
use Rattle.reed_solomon.proofs.FewRoots.{roots_below, few_roots}

-- ---- one root more

value_at-power_root : (j q : ℕ) (rest : List ℕ) → Octets rest → value_at j (1 ∷ with_root (power q) rest)
    ≡ bit_xor (times_power j (value_at j (1 ∷ rest))) (times_power q (value_at j (1 ∷ rest)))
value_at-power_root j q rest octets =
    let v = value_at j (1 ∷ rest) in
    value_at-with_root j (power q) rest octets
    ∙ ap (bit_xor (times_power j v)) (power-product q v (value_at-lt j (1 ∷ rest) (omega arith, octets)))

pub root_here : (q : ℕ) (rest : List ℕ) → Octets rest → value_at q (1 ∷ with_root (power q) rest) ≡ 0
root_here q rest octets = value_at-power_root q q rest octets ∙ xor_self (times_power q (value_at q (1 ∷ rest)))

pub root_stays : (j q : ℕ) (rest : List ℕ) → Octets rest → value_at j (1 ∷ rest) ≡ 0
    → value_at j (1 ∷ with_root (power q) rest) ≡ 0
root_stays j q rest octets none =
    value_at-power_root j q rest octets ∙ ap (λ n. bit_xor (times_power j n) (times_power q n)) none
    ∙ ap (λ n. bit_xor n (times_power q 0)) (times_power-zero j) ∙ ap (bit_xor 0) (times_power-zero q)

pub root_apart : (j q : ℕ) (rest : List ℕ) → Octets rest → j < 255 → q < 255 → q ≢ j → value_at j (1 ∷ rest) ≢ 0
    → value_at j (1 ∷ with_root (power q) rest) ≢ 0
root_apart j q rest octets j_low q_low apart some none =
    let v = value_at j (1 ∷ rest) in
    let v_some : 0 < v = omega (arith, some) in
    apart (sym (same_power j q v j_low q_low v_some (value_at-lt j (1 ∷ rest) (omega arith, octets))
    (same_from_xor (times_power j v) (times_power q v) (sym (value_at-power_root j q rest octets) ∙ none))))

pub value_at_one : (j : ℕ) → value_at j (1 ∷ []) ≡ 1
value_at_one j = value_at-single j 1

-- ---- counts

pub count_true-push : (xs : List Bool) (b : Bool) → count_true (xs ++ b ∷ []) ≡ count_true xs + cond b 1 0
unfolding count_true
count_true-push [] b = omega arith
count_true-push (x ∷ xs) b = omega (arith, count_true-push xs b)

pub count_true-take : (n : ℕ) (xs : List Bool) → count_true (take n xs) ≤ count_true xs
unfolding count_true
count_true-take zero xs = omega arith
count_true-take (suc n) [] = omega arith
count_true-take (suc n) (x ∷ xs) = omega (arith, count_true-take n xs)

pub count_true_more : (xs : List Bool) (i : ℕ) → i < length xs
    → count_true (take (i + 1) xs) ≡ count_true (take i xs) + cond (get_or xs i false) 1 0
count_true_more xs i below = ap count_true (take_more xs i false below)
    ∙ count_true-push (take i xs) (get_or xs i false)

-- a root counts one more
pub count_true_root : (xs : List Bool) (i : ℕ) → i < length xs → get_or xs i false ≡ true
    → count_true (take (i + 1) xs) ≡ count_true (take i xs) + 1
count_true_root xs i below root =
    count_true_more xs i below ∙ ap (λ b. count_true (take i xs) + cond b 1 0) root

pub count_true_step : (xs : List Bool) (i : ℕ) → i < length xs → count_true (take i xs) ≤ count_true (take (i + 1) xs)
count_true_step xs i below = omega (arith, count_true_more xs i below)

-- another place counts nothing
pub count_true_none : (xs : List Bool) (i : ℕ) → i < length xs → get_or xs i false ≡ false
    → count_true (take (i + 1) xs) ≡ count_true (take i xs)
count_true_none xs i below none =
    count_true_more xs i below ∙ ap (λ b. count_true (take i xs) + cond b 1 0) none ∙ omega arith

pub count_true_nil : count_true [] ≡ 0
unfolding count_true
count_true_nil = refl

-- one place changed
pub count_true-set : (xs : List Bool) (k : ℕ) (b : Bool) → k < length xs
    → count_true (set xs k b) + cond (get_or xs k false) 1 0 ≡ count_true xs + cond b 1 0
unfolding count_true
count_true-set [] k b below = absurd (omega arith)
count_true-set (x ∷ xs) zero b below = omega arith
count_true-set (x ∷ xs) (suc k) b below = omega (arith, count_true-set xs k b (omega arith))

pub count_true_raised : (xs : List Bool) (k : ℕ) → k < length xs → count_true (set xs k true) ≤ count_true xs + 1
count_true_raised xs k below =
    let step : count_true (set xs k true) + cond (get_or xs k false) 1 0 ≡ count_true xs + 1 =
    count_true-set xs k true below in
    omega (arith, step)

pub count_true_cleared : (xs : List Bool) (k : ℕ) → k < length xs → get_or xs k false ≡ true
    → count_true (set xs k false) + 1 ≡ count_true xs
count_true_cleared xs k below root =
    let step : count_true (set xs k false) + 1 ≡ count_true xs + 0 =
    sym (ap (λ b. count_true (set xs k false) + cond b 1 0) root) ∙ count_true-set xs k false below in
    omega (arith, step)

count_true-roots : (l : List ℕ) (xs : List Bool) (n : ℕ) → n ≤ length xs
    → ((p : ℕ) → p < length xs → get_or xs p false ≡ eqb (value_at p l) 0) → count_true (take n xs) ≡ roots_below l n
unfolding roots_below count_true
count_true-roots l xs zero within is = refl
count_true-roots l xs (suc n) within is =
    let more : suc n ≡ n + 1 = omega arith in
    ap (λ m. count_true (take m xs)) more ∙ count_true_more xs n (omega arith)
    ∙ ap (λ b. count_true (take n xs) + cond b 1 0) (is n (omega arith))
    ∙ ap (λ m. m + cond (eqb (value_at n l) 0) 1 0) (count_true-roots l xs n (omega arith) is) ∙ omega arith

-- A list that is not 0 has fewer roots than coefficients.
pub count_true-lt : (l : List ℕ) (xs : List Bool) → length xs ≡ 255
    → ((p : ℕ) → p < 255 → get_or xs p false ≡ eqb (value_at p l) 0) → Octets l → weight l ≢ 0
    → count_true xs < length l
count_true-lt l xs size is octets some =
    let all : count_true xs ≡ roots_below l 255 =
    ap count_true (sym (take_all 255 xs (omega arith)))
    ∙ count_true-roots l xs 255 (omega arith) (λ p below. is p (omega arith)) in
    elim (cases_lt (count_true xs) (length l)) [
      | inl few ↦ few
      | inr many ↦ absurd (some (few_roots 255 l (omega arith) octets (omega arith)))
    ]

-- a list with an octet that is not 0
pub weight_at : (xs : List ℕ) (u : ℕ) → get_or xs u 0 ≢ 0 → weight xs ≢ 0
unfolding weight
weight_at [] u some none = some refl
weight_at (zero ∷ xs) zero some none = some refl
weight_at (zero ∷ xs) (suc u) some none = weight_at xs u some none
weight_at (suc x ∷ xs) u some none = absurd (omega arith)

-- So has the kernel of a word's syndromes.
pub few_kernel_roots : (most u : ℕ) (k : List ℕ) (roots : List Bool) → length roots ≡ 255 → length k ≡ 33 → most < 33
    → Octets (take (most + 1) k)
    → ((p : ℕ) → p < 255 → get_or roots p false ≡ eqb (value_at p (take (most + 1) k)) 0)
    → u < most + 1 → get_or k u 0 ≡ 1 → count_true roots ≤ most
few_kernel_roots most u k roots size k_size low octets is below one =
    let l = take (most + 1) k in
    let at : get_or l u 0 ≡ 1 = get_or-take (most + 1) k u 0 below ∙ one in
    omega (
      arith,
      count_true-lt l roots size is octets (weight_at l u (λ none. absurd (omega (arith, at, none)))),
      length-take (most + 1) k,
    )
