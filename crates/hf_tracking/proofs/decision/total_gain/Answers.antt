use Rattle.hf_tracking.proofs.Common.{◌+ℤ◌, ap, ◌∙◌, arith, ints, int_max, Mark, Space}
use Rattle.hf_tracking.specs.Heard.{gain, next_gain}
use Rattle.hf_tracking.proofs.PhasorLemmas.{larger_is, larger_small, sum_is}
use Rattle.hf_tracking.proofs.decision.total_gain.Goals as goal

pub overflow_add-result : goal.overflow_add-result
overflow_add-result c =
    let a = c.next_gain-mark.ensures.bound in
    let b = c.next_gain-space.ensures.bound in
    let best = larger_is c.next_gain-mark.result c.next_gain-space.result c.max.result (omega arith) (omega arith) c.max.ensures.value in
    let small = larger_small 5260000000000000000 c.next_gain-mark.result c.next_gain-space.result c.max.result a b best in
    let own = c.gain.ensures.bound in
    omega (arith, ints)

pub returns : goal.returns
returns c =
    let a = c.next_gain-mark.ensures.bound in
    let b = c.next_gain-space.ensures.bound in
    let best = larger_is c.next_gain-mark.result c.next_gain-space.result c.max.result (omega arith) (omega arith) c.max.ensures.value in
    let small = larger_small 5260000000000000000 c.next_gain-mark.result c.next_gain-space.result c.max.result a b best in
    let own = c.gain.ensures.bound in
    let tone = c.args.tone in
    let next = c.args.next.now in
    let later = c.args.later.now in
    let mark = c.next_gain-mark.ensures.gain ∙ ap (λ t. next_gain tone t next later Mark) c.moved_on-after.ensures.moved in
    let space = c.next_gain-space.ensures.gain ∙ ap (λ t. next_gain tone t next later Space) c.moved_on-after.ensures.moved in
    let here = c.gain.ensures.gain ∙ (λ i. gain (c.expected.ensures.expected i) (c.heard_as.ensures.heard i)) in
    let larger = best ∙ (λ i. int_max (mark i) (space i)) in
    sum_is c.gain.result c.max.result (omega arith) (omega arith) ∙ (λ i. here i +ℤ larger i)
