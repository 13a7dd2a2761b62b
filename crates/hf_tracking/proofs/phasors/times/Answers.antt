use Rattle.hf_tracking.proofs.Common.{◌≤◌, ℤ, ◌+ℤ◌, ◌-ℤ◌, unsigned_abs, ap, subst, sym, ◌∙◌, arith}
use Rattle.hf_tracking.specs.Tracks.{scaled}
use Rattle.hf_tracking.proofs.PhasorLemmas.{part_is, passed_product, sum_fits, less_fits, less_is, less_small, three_fits}
use Rattle.hf_tracking.proofs.PhasorLemmas.{three_is, three_small}
use Rattle.hf_tracking.proofs.phasors.times.Goals as goal

pub overflow_sub-product_turned : goal.overflow_sub-product_turned
overflow_sub-product_turned c =
    let a = c.product_turned.ensures.bound in
    let b = c.product_turned-across.ensures.bound in
    less_fits c.product_turned.result c.product_turned-across.result (omega arith) (omega arith)

pub scaled-requires : goal.scaled-requires
scaled-requires c =
    let a = c.product_turned.ensures.bound in
    let b = c.product_turned-across.ensures.bound in
    let small = less_small 1680000000000 1680000000000 c.product_turned.result c.product_turned-across.result a b in
    subst (λ (z : ℤ). unsigned_abs z ≤ 10000000000000)
    (sym (less_is c.product_turned.result c.product_turned-across.result (omega arith) (omega arith))) (omega arith)

pub overflow_add-product_turned : goal.overflow_add-product_turned
overflow_add-product_turned c =
    let a = c.product_turned-2.ensures.bound in
    let b = c.product_turned-3.ensures.bound in
    sum_fits c.product_turned-2.result c.product_turned-3.result (omega arith) (omega arith)

pub overflow_add-product_turned-2 : goal.overflow_add-product_turned-2
overflow_add-product_turned-2 c =
    three_fits 1680000000000 1680000000000 1680000000000 c.product_turned-2.result c.product_turned-3.result c.product_turned-across.result (omega arith)
    c.product_turned-2.ensures.bound c.product_turned-3.ensures.bound c.product_turned-across.ensures.bound

pub scaled-requires-2 : goal.scaled-requires-2
scaled-requires-2 c =
    let small = three_small 1680000000000 1680000000000 1680000000000 c.product_turned-2.result c.product_turned-3.result c.product_turned-across.result
    (omega arith) c.product_turned-2.ensures.bound c.product_turned-3.ensures.bound c.product_turned-across.ensures.bound in
    let is = three_is 1680000000000 1680000000000 1680000000000 c.product_turned-2.result c.product_turned-3.result c.product_turned-across.result
    (omega arith) c.product_turned-2.ensures.bound c.product_turned-3.ensures.bound c.product_turned-across.ensures.bound in
    subst (λ (z : ℤ). unsigned_abs z ≤ 10000000000000) (sym is) (omega arith)

pub returns-clause-product : goal.returns-clause-product
returns-clause-product c =
    let p = c.args.p in
    let turn = c.args.turn in
    let p_a = c.requires.phasor.first in
    let p_b = c.requires.phasor.second in
    let t_a = c.requires.first in
    let t_b = c.requires.second in
    let b_0 = c.product_turned-across.ensures.bound in
    let b_1 = c.product_turned.ensures.bound in
    let across = passed_product p.b turn.b c.product_turned-across.result (omega arith) (omega arith)
    c.product_turned-across.ensures.value in
    let one = passed_product p.a turn.a c.product_turned.result (omega arith) (omega arith) c.product_turned.ensures.value in
    let two = passed_product p.a turn.b c.product_turned-2.result (omega arith) (omega arith) c.product_turned-2.ensures.value in
    let three = passed_product p.b turn.a c.product_turned-3.result (omega arith) (omega arith) c.product_turned-3.ensures.value in
    let first = less_is c.product_turned.result c.product_turned-across.result (omega arith) (omega arith)
    ∙ (λ i. one i -ℤ across i) in
    let second = three_is 1680000000000 1680000000000 1680000000000 c.product_turned-2.result c.product_turned-3.result c.product_turned-across.result
    (omega arith) c.product_turned-2.ensures.bound c.product_turned-3.ensures.bound b_0
    ∙ (λ i. (two i +ℤ three i) +ℤ across i) in
    let s_1 = c.scaled.ensures.bound in
    let s_2 = c.scaled-2.ensures.bound in
    let a = part_is c.scaled.result (omega arith) ∙ c.scaled.ensures.value ∙ ap scaled first in
    let b = part_is c.scaled-2.result (omega arith) ∙ c.scaled-2.ensures.value ∙ ap scaled second in
    λ i. record { a = a i; b = b i }
