use Rattle.hf_tracking.proofs.Common.{◌≡◌, ◌≤◌, ℤ, ◌+ℤ◌, ◌*ℤ◌, unsigned_abs, subst, sym, ◌∙◌, arith, ints, Phasor}
use Rattle.hf_tracking.proofs.Common.{IsWithin, IsSmall}
use Rattle.hf_tracking.proofs.PhasorLemmas.{passed_product, product_size, sum_is, sum_fits, three_fits, three_is, three_small}
use Rattle.hf_tracking.proofs.phasors.dot.Goals as goal

-- the three products as they were made, and how large they are
module _ (p q : Phasor) (x y z : ℤ) (first : IsWithin 800000000 p) (second : IsSmall q)
    (x_is : x ≡ p.a *ℤ q.a) (y_is : y ≡ (p.a +ℤ p.b) *ℤ (q.a +ℤ q.b)) (z_is : z ≡ p.b *ℤ q.b) where
  x_small : unsigned_abs x ≤ 83886080000000000
  x_small = subst (λ (n : ℤ). unsigned_abs n ≤ 83886080000000000) (sym x_is)
      (product_size 800000000 104857600 p.a q.a first.first second.first)

  y_small : unsigned_abs y ≤ 167772160000000000
  y_small =
      let a = second.first in
      let b = second.second in
      let both : unsigned_abs (q.a +ℤ q.b) ≤ 209715200 = omega (arith, ints) in
      subst (λ (n : ℤ). unsigned_abs n ≤ 167772160000000000) (sym y_is)
      (product_size 800000000 209715200 (p.a +ℤ p.b) (q.a +ℤ q.b) first.both both)

  z_small : unsigned_abs z ≤ 83886080000000000
  z_small = subst (λ (n : ℤ). unsigned_abs n ≤ 83886080000000000) (sym z_is)
      (product_size 800000000 104857600 p.b q.b first.second second.second)

pub overflow_add-result : goal.overflow_add-result
overflow_add-result c =
    let a = c.product_heard.ensures.bound in
    let b = c.product_heard-2.ensures.bound in
    sum_fits c.product_heard.result c.product_heard-2.result (omega arith) (omega arith)

pub overflow_add-result-2 : goal.overflow_add-result-2
overflow_add-result-2 c =
    three_fits 167772160000000000 167772160000000000 167772160000000000 c.product_heard.result c.product_heard-2.result
    c.product_heard-3.result (omega arith) c.product_heard.ensures.bound c.product_heard-2.ensures.bound
    c.product_heard-3.ensures.bound

pub returns-clause-dot : goal.returns-clause-dot
returns-clause-dot c =
    let p = c.args.p in
    let q = c.args.q in
    let p_a = c.requires.first.first in
    let p_b = c.requires.first.second in
    let q_a = c.requires.second.first in
    let q_b = c.requires.second.second in
    let one = passed_product p.a q.a c.product_heard.result (omega arith) (omega arith) c.product_heard.ensures.value in
    let own = sum_is p.a p.b (omega arith) (omega arith) in
    let other = sum_is q.a q.b (omega arith) (omega arith) in
    let two : c.product_heard-2.result ≡ (p.a +ℤ p.b) *ℤ (q.a +ℤ q.b)
    = c.product_heard-2.ensures.value ∙ (λ i. own i *ℤ other i) in
    let three = passed_product p.b q.b c.product_heard-3.result (omega arith) (omega arith) c.product_heard-3.ensures.value in
    three_is 167772160000000000 167772160000000000 167772160000000000 c.product_heard.result c.product_heard-2.result
    c.product_heard-3.result (omega arith) c.product_heard.ensures.bound c.product_heard-2.ensures.bound
    c.product_heard-3.ensures.bound
    ∙ (λ i. (one i +ℤ two i) +ℤ three i)

pub returns-clause-bound : goal.returns-clause-bound
returns-clause-bound c =
    let p = c.args.p in
    let q = c.args.q in
    let p_a = c.requires.first.first in
    let p_b = c.requires.first.second in
    let q_a = c.requires.second.first in
    let q_b = c.requires.second.second in
    let one = passed_product p.a q.a c.product_heard.result (omega arith) (omega arith) c.product_heard.ensures.value in
    let own = sum_is p.a p.b (omega arith) (omega arith) in
    let other = sum_is q.a q.b (omega arith) (omega arith) in
    let two : c.product_heard-2.result ≡ (p.a +ℤ p.b) *ℤ (q.a +ℤ q.b)
    = c.product_heard-2.ensures.value ∙ (λ i. own i *ℤ other i) in
    let three = passed_product p.b q.b c.product_heard-3.result (omega arith) (omega arith) c.product_heard-3.ensures.value in
    let x = c.product_heard.result in
    let y = c.product_heard-2.result in
    let z = c.product_heard-3.result in
    let a = x_small p q x y z c.requires.first c.requires.second one two three in
    let b = y_small p q x y z c.requires.first c.requires.second one two three in
    let d = z_small p q x y z c.requires.first c.requires.second one two three in
    let small = three_small 83886080000000000 167772160000000000 83886080000000000 x y z (omega arith) a b d in
    let is = three_is 83886080000000000 167772160000000000 83886080000000000 x y z (omega arith) a b d in
    subst (λ (n : ℤ). unsigned_abs n ≤ 336000000000000000) (sym is) (omega arith)
