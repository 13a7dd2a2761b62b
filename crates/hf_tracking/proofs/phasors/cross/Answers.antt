use Rattle.hf_tracking.proofs.Common.{◌-ℤ◌, ◌∙◌, arith}
use Rattle.hf_tracking.proofs.PhasorLemmas.{less_is, less_fits, passed_product}
use Rattle.hf_tracking.proofs.phasors.cross.Goals as goal

pub overflow_sub-result : goal.overflow_sub-result
overflow_sub-result c =
    let a = c.product_heard.ensures.bound in
    let b = c.product_heard-2.ensures.bound in
    less_fits c.product_heard.result c.product_heard-2.result (omega arith) (omega arith)

pub returns : goal.returns
returns c =
    let p = c.args.p in
    let q = c.args.q in
    let a = c.product_heard.ensures.bound in
    let b = c.product_heard-2.ensures.bound in
    let p_a = c.requires.first.first in
    let p_b = c.requires.first.second in
    let q_a = c.requires.second.first in
    let q_b = c.requires.second.second in
    let one = passed_product p.a q.b c.product_heard.result (omega arith) (omega arith) c.product_heard.ensures.value in
    let two = passed_product p.b q.a c.product_heard-2.result (omega arith) (omega arith) c.product_heard-2.ensures.value in
    less_is c.product_heard.result c.product_heard-2.result (omega arith) (omega arith) ∙ (λ i. one i -ℤ two i)
