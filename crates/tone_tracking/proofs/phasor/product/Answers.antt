use Rattle.tone_tracking.proofs.Common.{◌≡◌, ◌≤◌, ◌*ℤ◌, ℤ, unsigned_abs, FitsSigned, to_z, of_z, w64, subst, sym, arith}
use Rattle.tone_tracking.proofs.Common.{ints, to_z-of_z}
use Rattle.tone_tracking.proofs.PhasorLemmas.{product_bound}
use Rattle.tone_tracking.proofs.phasor.product.Goals as goal

-- a product of parts as it is passed and given back
product_is : (x y : ℤ) → unsigned_abs x ≤ 2100000000 → unsigned_abs y ≤ 2100000000
    → to_z w64 (of_z w64 (to_z w64 (of_z w64 x) *ℤ to_z w64 (of_z w64 y))) ≡ x *ℤ y
product_is x y a b =
    let fits_x : FitsSigned w64 x = omega (arith, ints) in
    let fits_y : FitsSigned w64 y = omega (arith, ints) in
    let bound : unsigned_abs (x *ℤ y) ≤ 4410000000000000000 = product_bound 2100000000 x y a b in
    let fits : FitsSigned w64 (x *ℤ y) = omega (arith, ints) in
    simp to_z-of_z

pub returns-clause-value : goal.returns-clause-value
returns-clause-value c = product_is c.args.part c.args.other c.requires.part c.requires.other

pub returns-clause-bound : goal.returns-clause-bound
returns-clause-bound c =
    subst (λ z. unsigned_abs z ≤ 4410000000000000000)
    (sym (product_is c.args.part c.args.other c.requires.part c.requires.other))
    (product_bound 2100000000 c.args.part c.args.other c.requires.part c.requires.other)
