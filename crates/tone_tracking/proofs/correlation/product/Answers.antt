use Rattle.tone_tracking.proofs.Common.{◌≡◌, ◌≤◌, ◌*ℤ◌, ℤ, unsigned_abs, FitsSigned, to_z, of_z, w32, arith, ints, to_z-of_z}
use Rattle.tone_tracking.proofs.CorrelationLemmas.{product_size}
use Rattle.tone_tracking.proofs.correlation.product.Goals as goal

module _ (x y : ℤ) (a : unsigned_abs x ≤ 262144) (b : unsigned_abs y ≤ 566) where
  small : unsigned_abs (x *ℤ y) ≤ 148373504
  small = omega (arith, product_size 262144 x y a)

  fits : FitsSigned w32 (to_z w32 (of_z w32 x) *ℤ to_z w32 (of_z w32 y))
  fits =
      let fits_x : FitsSigned w32 x = omega (arith, ints) in
      let fits_y : FitsSigned w32 y = omega (arith, ints) in
      rw (to_z-of_z w32 x fits_x, to_z-of_z w32 y fits_y) (omega (arith, ints, small))

  -- as it is passed and given back
  is : to_z w32 (of_z w32 (to_z w32 (of_z w32 x) *ℤ to_z w32 (of_z w32 y))) ≡ x *ℤ y
  is =
      let fits_x : FitsSigned w32 x = omega (arith, ints) in
      let fits_y : FitsSigned w32 y = omega (arith, ints) in
      let fits_product : FitsSigned w32 (x *ℤ y) = omega (arith, ints, small) in
      simp to_z-of_z

pub overflow_mul-result : goal.overflow_mul-result
overflow_mul-result c = fits c.args.sample c.args.weight c.requires.sample c.requires.weight

pub returns : goal.returns
returns c = is c.args.sample c.args.weight c.requires.sample c.requires.weight
