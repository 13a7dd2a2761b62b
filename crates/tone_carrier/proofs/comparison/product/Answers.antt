use Rattle.std.proofs.Common.{◌≡◌, ◌≤◌, ◌*ℤ◌, ℤ, unsigned_abs, FitsSigned, to_z, of_z, w64, subst, sym, arith}
use Rattle.std.proofs.lemmas.Int.{ints, to_z-of_z}
use Rattle.tone_carrier.proofs.NumberLemmas.{product_bound}
use Rattle.tone_carrier.proofs.comparison.product.Goals as goal

product_is : (x y : ℤ) → unsigned_abs x ≤ 10240000 → unsigned_abs y ≤ 10240000
    → to_z w64 (of_z w64 (to_z w64 (of_z w64 x) *ℤ to_z w64 (of_z w64 y))) ≡ x *ℤ y
product_is x y a b =
    let fits_x : FitsSigned w64 x = omega (arith, ints) in
    let fits_y : FitsSigned w64 y = omega (arith, ints) in
    let bound : unsigned_abs (x *ℤ y) ≤ 104857600000000 = product_bound 10240000 10240000 x y a b in
    let fits : FitsSigned w64 (x *ℤ y) = omega (arith, ints) in
    simp to_z-of_z

pub returns-clause-value : goal.returns-clause-value
returns-clause-value c = product_is c.args.side c.args.other c.requires.side c.requires.other

pub returns-clause-bound : goal.returns-clause-bound
returns-clause-bound c =
    subst (λ z. unsigned_abs z ≤ 104857600000000)
    (sym (product_is c.args.side c.args.other c.requires.side c.requires.other))
    (product_bound 10240000 10240000 c.args.side c.args.other c.requires.side c.requires.other)
