-- The power of eight samples is not negative: the square of their sum is at most eight times the sum of their squares.
use Rattle.std.proofs.Common.{◌≡◌, ℕ, ◌^◌, ℤ, pos, ◌+ℤ◌, ◌-ℤ◌, ◌*ℤ◌, ◌≤ℤ◌, List, subst, arith}
use Rattle.std.proofs.lemmas.Int.{ints}
use Rattle.offset_slicers.specs.Decision.{sum_below}
use Rattle.tone_carrier.specs.HeardWindows.{sample_at, sum_of, square_sum_of, power}
use Rattle.tone_carrier.proofs.NumberLemmas.{square_least, square_of_sum}

-- eight numbers, added in pairs
spread : (a b c d e f g h : ℤ)
    → ((((a +ℤ b) +ℤ (c +ℤ d)) +ℤ ((e +ℤ f) +ℤ (g +ℤ h))) *ℤ (((a +ℤ b) +ℤ (c +ℤ d)) +ℤ ((e +ℤ f) +ℤ (g +ℤ h))))
    ≤ℤ (pos 8 *ℤ ((((((((a *ℤ a) +ℤ b *ℤ b) +ℤ c *ℤ c) +ℤ d *ℤ d) +ℤ e *ℤ e) +ℤ f *ℤ f) +ℤ g *ℤ g) +ℤ h *ℤ h))
spread a b c d e f g h =
    omega (
      arith,
      ints,
      square_of_sum ((a +ℤ b) +ℤ (c +ℤ d)) ((e +ℤ f) +ℤ (g +ℤ h)),
      square_of_sum (a +ℤ b) (c +ℤ d),
      square_of_sum (e +ℤ f) (g +ℤ h),
      square_of_sum a b,
      square_of_sum c d,
      square_of_sum e f,
      square_of_sum g h,
    )

in_pairs : (a b c d e f g h : ℤ)
    → ((a +ℤ b) +ℤ (c +ℤ d)) +ℤ ((e +ℤ f) +ℤ (g +ℤ h))
    ≡ (((((((pos 0 +ℤ a) +ℤ b) +ℤ c) +ℤ d) +ℤ e) +ℤ f) +ℤ g) +ℤ h
in_pairs a b c d e f g h = omega (arith, ints)

-- the square of the sum of eight numbers
square_of_eight : (f : ℕ → ℤ)
    → (sum_below f 8 *ℤ sum_below f 8) ≤ℤ (pos 8 *ℤ sum_below (λ i. f i *ℤ f i) 8)
unfolding sum_below
square_of_eight f =
    let P : ℤ → Type 0 = λ s. (s *ℤ s)
    ≤ℤ (pos 8 *ℤ ((((((((f 0 *ℤ f 0) +ℤ f 1 *ℤ f 1) +ℤ f 2 *ℤ f 2) +ℤ f 3 *ℤ f 3) +ℤ f 4 *ℤ f 4) +ℤ f 5 *ℤ f 5)
    +ℤ f 6 *ℤ f 6) +ℤ f 7 *ℤ f 7)) in
    let least = subst P (in_pairs (f 0) (f 1) (f 2) (f 3) (f 4) (f 5) (f 6) (f 7))
    (spread (f 0) (f 1) (f 2) (f 3) (f 4) (f 5) (f 6) (f 7)) in
    omega (arith, ints, least)

-- the power by both sums
power_bounds : (s q : ℤ) → (s *ℤ s) ≤ℤ (pos 8 *ℤ q) → q ≤ℤ pos (2 ^ 33)
    → (pos 0 ≤ℤ (pos 64 *ℤ q -ℤ pos 7 *ℤ (s *ℤ s))) × ((pos 64 *ℤ q -ℤ pos 7 *ℤ (s *ℤ s)) ≤ℤ pos (2 ^ 39))
power_bounds s q small large =
    let least = square_least s in (omega (arith, ints), omega (arith, ints))

pub power_least : (w : List ℤ) → square_sum_of w ≤ℤ pos (2 ^ 33) → pos 0 ≤ℤ power w
unfolding power sum_of square_sum_of
power_least w large = (power_bounds (sum_of w) (square_sum_of w) (square_of_eight (sample_at w)) large).0

pub power_most : (w : List ℤ) → square_sum_of w ≤ℤ pos (2 ^ 33) → power w ≤ℤ pos (2 ^ 39)
unfolding power sum_of square_sum_of
power_most w large = (power_bounds (sum_of w) (square_sum_of w) (square_of_eight (sample_at w)) large).1
