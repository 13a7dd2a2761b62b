use Rattle.hf_tracking.proofs.Common.{◌≤◌, ◌+ℤ◌, unsigned_abs, ap, subst, sym, ◌∙◌, arith, ints, int_max, Mark, Space}
use Rattle.hf_tracking.specs.Heard.{gain, last_gain}
use Rattle.hf_tracking.specs.Tracks.{turned}
use Rattle.hf_tracking.proofs.PhasorLemmas.{larger_is, larger_small, sum_is, sum_small}
use Rattle.hf_tracking.proofs.decision.next_gain.Goals as goal

pub overflow_add-result : goal.overflow_add-result
overflow_add-result c =
    let a = c.last_gain-mark.ensures.bound in
    let b = c.last_gain-space.ensures.bound in
    let best = larger_is c.last_gain-mark.result c.last_gain-space.result c.max.result (omega arith) (omega arith) c.max.ensures.value in
    let small = larger_small 2630000000000000000 c.last_gain-mark.result c.last_gain-space.result c.max.result a b best in
    let own = c.gain.ensures.bound in
    omega (arith, ints)

pub returns-clause-gain : goal.returns-clause-gain
returns-clause-gain c =
    let a = c.last_gain-mark.ensures.bound in
    let b = c.last_gain-space.ensures.bound in
    let best = larger_is c.last_gain-mark.result c.last_gain-space.result c.max.result (omega arith) (omega arith) c.max.ensures.value in
    let small = larger_small 2630000000000000000 c.last_gain-mark.result c.last_gain-space.result c.max.result a b best in
    let own = c.gain.ensures.bound in
    let first = c.args.first in
    let tone = c.args.tone in
    let later = c.args.later.now in
    let mark = c.last_gain-mark.ensures.gain ∙ ap (λ t. last_gain first tone t later Mark) c.moved_on-after.ensures.moved in
    let space = c.last_gain-space.ensures.gain ∙ ap (λ t. last_gain first tone t later Space) c.moved_on-after.ensures.moved in
    let phasor = c.turned.ensures.turned ∙ ap (turned first) c.expected.ensures.expected in
    let here = c.gain.ensures.gain ∙ (λ i. gain (phasor i) (c.heard_as.ensures.heard i)) in
    let larger = best ∙ (λ i. int_max (mark i) (space i)) in
    sum_is c.gain.result c.max.result (omega arith) (omega arith) ∙ (λ i. here i +ℤ larger i)

pub returns-clause-bound : goal.returns-clause-bound
returns-clause-bound c =
    let a = c.last_gain-mark.ensures.bound in
    let b = c.last_gain-space.ensures.bound in
    let best = larger_is c.last_gain-mark.result c.last_gain-space.result c.max.result (omega arith) (omega arith) c.max.ensures.value in
    let small = larger_small 2630000000000000000 c.last_gain-mark.result c.last_gain-space.result c.max.result a b best in
    let own = c.gain.ensures.bound in
    subst (λ z. unsigned_abs z ≤ 5260000000000000000) (sym (sum_is c.gain.result c.max.result (omega arith) (omega arith)))
    (sum_small 2630000000000000000 2630000000000000000 c.gain.result c.max.result own small)
