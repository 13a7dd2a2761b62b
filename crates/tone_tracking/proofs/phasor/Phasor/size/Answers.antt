use Rattle.tone_tracking.proofs.Common.{◌≡◌, ◌≤◌, ℤ, ◌*ℤ◌, ◌+ℤ◌, ◌-ℤ◌, FitsSigned, to_z, of_z, w64, unsigned_abs, ap}
use Rattle.tone_tracking.proofs.Common.{sym, subst, ◌∙◌, arith, ints, to_z-of_z, Phasor, IsWithin, size}
use Rattle.tone_tracking.proofs.PhasorLemmas.{size-sum}
use Rattle.tone_tracking.proofs.phasor.Phasor.size.Goals as goal

-- a part as it is passed
part_is : (x : ℤ) → unsigned_abs x ≤ 2100000000 → to_z w64 (of_z w64 x) ≡ x
part_is x small =
    let fits : FitsSigned w64 x = omega (arith, ints) in
    to_z-of_z w64 x fits

-- both parts added, as they are passed
both_is : (p : Phasor) → IsWithin 2100000000 p
    → to_z w64 (of_z w64 (to_z w64 (of_z w64 p.a) +ℤ to_z w64 (of_z w64 p.b))) ≡ p.a +ℤ p.b
both_is p within =
    ap (λ z. to_z w64 (of_z w64 z))
    (let a = part_is p.a within.first in let b = part_is p.b within.second in λ i. a i +ℤ b i)
    ∙ part_is (p.a +ℤ p.b) within.both

-- a difference as it is given back
difference_is : (x y : ℤ) → unsigned_abs x ≤ 4410000000000000000 → unsigned_abs y ≤ 4410000000000000000
    → to_z w64 (of_z w64 (to_z w64 (of_z w64 x) -ℤ to_z w64 (of_z w64 y))) ≡ x -ℤ y
difference_is x y a b = omega (arith, ints)

less : (x y z : ℤ) → z +ℤ y ≡ x → x -ℤ y ≡ z
less x y z is = omega (arith, ints)

pub product-requires-clause-part : goal.product-requires-clause-part
product-requires-clause-part c =
    subst (λ z. unsigned_abs z ≤ 2100000000) (sym (both_is c.args.self c.requires)) c.requires.both

pub product-requires-clause-other : goal.product-requires-clause-other
product-requires-clause-other c =
    subst (λ z. unsigned_abs z ≤ 2100000000) (sym (both_is c.args.self c.requires)) c.requires.both

pub returns : goal.returns
returns c =
    let p = c.args.self in
    let both = both_is p c.requires in
    let a = part_is p.a c.requires.first in
    let b = part_is p.b c.requires.second in
    let square : c.product.result ≡ (p.a +ℤ p.b) *ℤ (p.a +ℤ p.b) = c.product.ensures.value ∙ (λ i. both i *ℤ both i) in
    let mixed : c.product-2.result ≡ p.a *ℤ p.b = c.product-2.ensures.value ∙ (λ i. a i *ℤ b i) in
    difference_is c.product.result c.product-2.result c.product.ensures.bound c.product-2.ensures.bound
    ∙ (λ i. square i -ℤ mixed i) ∙ less ((p.a +ℤ p.b) *ℤ (p.a +ℤ p.b)) (p.a *ℤ p.b) (size p) (size-sum p)
