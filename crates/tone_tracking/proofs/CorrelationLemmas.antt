-- Correlations by the samples of their windows.
use Rattle.tone_tracking.proofs.Common.{◌≡◌, ℕ, ◌+◌, ◌*◌, ◌<◌, ℤ, pos, ◌*ℤ◌, neg_ℤ, List, map, get_or, ap, ◌∙◌, arith}
use Rattle.tone_tracking.proofs.Common.{◌≤◌, ◌∷◌, [], zero, suc, unsigned_abs}
use Rattle.tone_tracking.proofs.Common.{Tone, Mark, Space, sum_below, product_of, weight, correlation, correlations}
use Rattle.std.proofs.Math.Nat.{mul-le-mul_right}
use Rattle.std.proofs.lemmas.Int.{unsigned_abs-mul}
use Rattle.std.proofs.lemmas.List.FromFn.{get_or-map-range_with_len}
use Rattle.std.specs.List.{range_with_len}
use Rattle.tone_table.specs.Tones.{phase_step}
use Rattle.offset_slicers.proofs.DecisionLemmas.{sum_below-agree}
use Rattle.tone_tracking.specs.Correlation.{product_at}

-- a table that holds a tone's weights, some steps on
pub sum-product_at : (tone : Tone) (shift : ℕ) (window weights : List ℤ)
    → weights ≡ map (λ i. weight (i * phase_step tone + shift)) (range_with_len 0 8)
    → sum_below (product_of window weights) 8 ≡ sum_below (product_at tone shift window 0) 8
sum-product_at tone shift window weights table =
    sum_below-agree (product_of window weights) (product_at tone shift window 0) 8
    (λ i below.
    let same : i ≡ 0 + i = omega arith in
    let there : get_or weights i (pos 0) ≡ weight (i * phase_step tone + shift) = ap (λ ws. get_or ws i (pos 0)) table
    ∙ get_or-map-range_with_len (λ k. weight (k * phase_step tone + shift)) 0 8 i i (pos 0) below (omega arith) in
    λ k. get_or window (same k) (pos 0) *ℤ there k)

-- windows with the same samples have the same correlations
correlation-agree : (tone : Tone) (x y : List ℤ) (p q : ℕ)
    → ((i : ℕ) → i < 8 → get_or x (p + i) (pos 0) ≡ get_or y (q + i) (pos 0))
    → correlation tone x p ≡ correlation tone y q
unfolding correlation
correlation-agree tone x y p q same =
    let on : sum_below (product_at tone 8 x p) 8 ≡ sum_below (product_at tone 8 y q) 8
    = sum_below-agree (product_at tone 8 x p) (product_at tone 8 y q) 8
    (λ i l. ap (λ z. z *ℤ weight (i * phase_step tone + 8)) (same i l)) in
    let at : sum_below (product_at tone 0 x p) 8 ≡ sum_below (product_at tone 0 y q) 8
    = sum_below-agree (product_at tone 0 x p) (product_at tone 0 y q) 8
    (λ i l. ap (λ z. z *ℤ weight (i * phase_step tone + 0)) (same i l)) in
    λ i. record { a = on i; b = neg_ℤ (at i) }

pub correlations-agree : (x y : List ℤ) (p q : ℕ)
    → ((i : ℕ) → i < 8 → get_or x (p + i) (pos 0) ≡ get_or y (q + i) (pos 0))
    → correlations x p ≡ correlations y q
correlations-agree x y p q same =
    let mark = correlation-agree Mark x y p q same in
    let space = correlation-agree Space x y p q same in
    λ i. record { mark = mark i; space = space i }

-- what holds of each of the first eight numbers
each_of_eight : (P : ℕ → Type 0) → P 0 → P 1 → P 2 → P 3 → P 4 → P 5 → P 6 → P 7 → (i : ℕ) → i < 8 → P i
each_of_eight P a b c d e f g h zero small = a
each_of_eight P a b c d e f g h (suc zero) small = b
each_of_eight P a b c d e f g h (suc (suc zero)) small = c
each_of_eight P a b c d e f g h (suc (suc (suc zero))) small = d
each_of_eight P a b c d e f g h (suc (suc (suc (suc zero)))) small = e
each_of_eight P a b c d e f g h (suc (suc (suc (suc (suc zero))))) small = f
each_of_eight P a b c d e f g h (suc (suc (suc (suc (suc (suc zero)))))) small = g
each_of_eight P a b c d e f g h (suc (suc (suc (suc (suc (suc (suc zero))))))) small = h
each_of_eight P a b c d e f g h (suc (suc (suc (suc (suc (suc (suc (suc i)))))))) small = absurd (omega arith)

-- a window of eight samples that begin at a place of others
pub correlations-eight : (x : List ℤ) (place : ℕ) (a b c d e f g h : ℤ) → a ≡ get_or x place (pos 0)
    → b ≡ get_or x (place + 1) (pos 0) → c ≡ get_or x (place + 2) (pos 0) → d ≡ get_or x (place + 3) (pos 0)
    → e ≡ get_or x (place + 4) (pos 0) → f ≡ get_or x (place + 5) (pos 0) → g ≡ get_or x (place + 6) (pos 0)
    → h ≡ get_or x (place + 7) (pos 0)
    → correlations (a ∷ b ∷ c ∷ d ∷ e ∷ f ∷ g ∷ h ∷ []) 0 ≡ correlations x place
correlations-eight x place a b c d e f g h a_is b_is c_is d_is e_is f_is g_is h_is =
    let first : place ≡ place + 0 = omega arith in
    correlations-agree (a ∷ b ∷ c ∷ d ∷ e ∷ f ∷ g ∷ h ∷ []) x 0 place
    (each_of_eight (λ i. get_or (a ∷ b ∷ c ∷ d ∷ e ∷ f ∷ g ∷ h ∷ []) (0 + i) (pos 0) ≡ get_or x (place + i) (pos 0))
    (a_is ∙ ap (λ k. get_or x k (pos 0)) first) b_is c_is d_is e_is f_is g_is h_is)

-- a product of a number of at most a size
pub product_size : (most : ℕ) (x w : ℤ) → unsigned_abs x ≤ most → unsigned_abs (x *ℤ w) ≤ most * unsigned_abs w
product_size most x w small =
    let least : unsigned_abs x * unsigned_abs w ≤ most * unsigned_abs w = mul-le-mul_right (unsigned_abs w) small in
    omega (arith, unsigned_abs-mul x w)
