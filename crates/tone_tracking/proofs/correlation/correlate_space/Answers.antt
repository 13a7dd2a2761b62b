use Rattle.tone_tracking.proofs.Common.{◌≡◌, ◌≤◌, ◌-ℤ◌, ℤ, pos, neg_ℤ, to_z, of_z, w32, w64, FitsSigned, unsigned_abs, refl}
use Rattle.tone_tracking.proofs.Common.{ap, ◌∙◌, arith, ints, to_z-of_z, Space, weight, correlation, IsWithin}
use Rattle.tone_table.specs.Sine.{quarter, half_wave, cycle_sample, wave_sample}
use Rattle.tone_tracking.proofs.CorrelationLemmas.{sum-product_at}
use Rattle.tone_tracking.proofs.correlation.correlate_space.Goals as goal

-- a sum as it is widened and given back
kept : (z wide : ℤ) → unsigned_abs z ≤ 148373504 → wide ≡ to_z w32 (of_z w32 z) → to_z w64 (of_z w64 wide) ≡ z
kept z wide bound is =
    let fits : FitsSigned w32 z = omega (arith, ints) in
    let same : wide ≡ z = simp to_z-of_z at is in
    omega (arith, ints)

-- and one that was turned round first
turned_round : (z wide : ℤ) → unsigned_abs z ≤ 148373504
    → wide ≡ to_z w32 (of_z w32 (pos 0 -ℤ to_z w32 (of_z w32 z))) → to_z w64 (of_z w64 wide) ≡ neg_ℤ z
turned_round z wide bound is =
    let fits : FitsSigned w32 z = omega (arith, ints) in
    let fits_round : FitsSigned w32 (pos 0 -ℤ z) = omega (arith, ints) in
    let same : wide ≡ pos 0 -ℤ z = is ∙ ap (λ y. to_z w32 (of_z w32 (pos 0 -ℤ y))) (to_z-of_z w32 z fits)
    ∙ to_z-of_z w32 (pos 0 -ℤ z) fits_round in
    omega (arith, ints)

pub returns-clause-sum : goal.returns-clause-sum
unfolding correlation weight wave_sample cycle_sample half_wave quarter
returns-clause-sum c =
    let w = c.args.window.now in
    let on = kept _ _ c.sum_of_products.ensures.bound c.from.ensures ∙ c.sum_of_products.ensures.sum
    ∙ sum-product_at Space 8 w _ refl in
    let at = turned_round _ _ c.sum_of_products-2.ensures.bound c.from-2.ensures
    ∙ ap neg_ℤ (c.sum_of_products-2.ensures.sum ∙ sum-product_at Space 0 w _ refl) in
    λ i. record { a = on i; b = at i }

-- a sum of products and another turned round
within_sums : (x y first second : ℤ) → unsigned_abs x ≤ 148373504 → unsigned_abs y ≤ 148373504 → first ≡ x
    → second ≡ neg_ℤ y → IsWithin 297000000 (record { a = first; b = second })
within_sums x y first second small large is turned =
    record { first = omega (arith, ints); second = omega (arith, ints); both = omega (arith, ints) }

pub returns-clause-bound : goal.returns-clause-bound
returns-clause-bound c =
    let x = c.sum_of_products.result in
    let y = c.sum_of_products-2.result in
    let one = c.sum_of_products.ensures.bound in
    let two = c.sum_of_products-2.ensures.bound in
    within_sums x y _ _ one two (kept x _ one c.from.ensures) (turned_round y _ two c.from-2.ensures)
