use Rattle.hf_tracking.proofs.Common.{◌≡◌, ℤ, ◌+ℤ◌, ◌-ℤ◌, ◌*ℤ◌, size, ◌∙◌, arith, ints}
use Rattle.tone_tracking.proofs.PhasorLemmas.{size-sum}
use Rattle.hf_tracking.proofs.PhasorLemmas.{less_is, passed_product, sum_is}
use Rattle.hf_tracking.proofs.phasors.size.Goals as goal

less : (x y z : ℤ) → z +ℤ y ≡ x → x -ℤ y ≡ z
less x y z is = omega (arith, ints)

pub returns-clause-size : goal.returns-clause-size
returns-clause-size c =
    let p = c.args.p in
    let a = c.requires.first in
    let b = c.requires.second in
    let both = sum_is p.a p.b (omega arith) (omega arith) in
    let one = c.product.ensures.bound in
    let two = c.product-2.ensures.bound in
    let square : c.product.result ≡ (p.a +ℤ p.b) *ℤ (p.a +ℤ p.b) = c.product.ensures.value ∙ (λ i. both i *ℤ both i) in
    let mixed = passed_product p.a p.b c.product-2.result (omega arith) (omega arith) c.product-2.ensures.value in
    less_is c.product.result c.product-2.result (omega arith) (omega arith)
    ∙ (λ i. square i -ℤ mixed i) ∙ less ((p.a +ℤ p.b) *ℤ (p.a +ℤ p.b)) (p.a *ℤ p.b) (size p) (size-sum p)
