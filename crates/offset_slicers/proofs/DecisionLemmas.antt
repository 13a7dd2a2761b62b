-- Sums of products, and how large a correlation can be.
use Rattle.offset_slicers.proofs.Common.{◌≡◌, ℕ, zero, suc, ◌+◌, ◌*◌, ◌<◌, ◌≤◌, ℤ, pos, ◌+ℤ◌, ◌*ℤ◌, List, map, get_or}
use Rattle.offset_slicers.proofs.Common.{unsigned_abs, FitsSigned, to_z, of_z, refl, ap, ◌∙◌, arith, ints, to_z-of_z}
use Rattle.offset_slicers.proofs.Common.{unsigned_abs-mul, w16, mul-le-mul_right, get_or-map-range_with_len}
use Rattle.offset_slicers.proofs.Common.{range_with_len, wave_sample, sum_below, product_of}
use Rattle.std.proofs.Common.{add-one}
use mir.Syntax.{Width}

-- sums of numbers that agree are equal
pub sum_below-agree : (f g : ℕ → ℤ) (n : ℕ) → ((i : ℕ) → i < n → f i ≡ g i) → sum_below f n ≡ sum_below g n
unfolding sum_below
sum_below-agree f g zero agree = refl
sum_below-agree f g (suc n) agree =
    ap (λ sum. sum +ℤ f n) (sum_below-agree f g n (λ i below. agree i (omega arith)))
    ∙ ap (λ last. sum_below g n +ℤ last) (agree n (omega arith))

-- a sum with one number more
pub sum_below-more : (f : ℕ → ℤ) (n : ℕ) → sum_below f (n + 1) ≡ sum_below f n +ℤ f n
unfolding sum_below
sum_below-more f n = rw add-one refl

-- the product of a sample of sixteen bits and a weight
pub unsigned_abs-product : (sample weight : ℤ) → unsigned_abs sample ≤ 32768
    → unsigned_abs (sample *ℤ weight) ≤ 32768 * unsigned_abs weight
unsigned_abs-product sample weight fits =
    let both : unsigned_abs sample * unsigned_abs weight ≤ 32768 * unsigned_abs weight =
    mul-le-mul_right (unsigned_abs weight) fits in
    omega (arith, unsigned_abs-mul sample weight)

-- the product of a sample and a weight as it is passed and given back
pub product_is : (sample weight product : ℤ) → FitsSigned w16 sample → FitsSigned w16 weight
    → product ≡ to_z w16 (of_z w16 sample) *ℤ to_z w16 (of_z w16 weight) → product ≡ sample *ℤ weight
product_is sample weight product sample_fits weight_fits is = simp to_z-of_z at is

pub product_bound : (sample weight product : ℤ) → FitsSigned w16 sample → product ≡ sample *ℤ weight
    → unsigned_abs product ≤ 32768 * unsigned_abs weight
product_bound sample weight product fits is =
    let small : unsigned_abs sample ≤ 32768 = omega (arith, ints) in
    rw is (unsigned_abs-product sample weight small)

-- a sum with one number more, if it fits
pub sum_is : (w : Width) (sum more : ℤ) → FitsSigned w more → FitsSigned w (sum +ℤ more)
    → to_z w (of_z w (sum +ℤ to_z w (of_z w more))) ≡ sum +ℤ more
sum_is w sum more more_fits fits =
    ap (λ z. to_z w (of_z w (sum +ℤ z))) (to_z-of_z w more more_fits) ∙ to_z-of_z w (sum +ℤ more) fits

-- a table that holds so many samples of a wave, from a phase on
pub sum_below-wave : (size step shift : ℕ) (window weights : List ℤ)
    → weights ≡ map (λ i. wave_sample (i * step + shift)) (range_with_len 0 size)
    → sum_below (product_of window weights) size
    ≡ sum_below (λ i. get_or window i (pos 0) *ℤ wave_sample (i * step + shift)) size
sum_below-wave size step shift window weights table =
    sum_below-agree (product_of window weights) (λ i. get_or window i (pos 0) *ℤ wave_sample (i * step + shift)) size
    (λ i below. ap (λ w. get_or window i (pos 0) *ℤ w)
    (ap (λ ws. get_or ws i (pos 0)) table
    ∙ get_or-map-range_with_len (λ k. wave_sample (k * step + shift)) 0 size i i (pos 0) below (omega arith)))
