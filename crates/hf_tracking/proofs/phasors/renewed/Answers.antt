use Rattle.hf_tracking.proofs.Common.{◌+ℤ◌, ap, ◌∙◌, arith}
use Rattle.hf_tracking.specs.Tracks.{five_eighths_of}
use Rattle.hf_tracking.proofs.PhasorLemmas.{part_is, sum_is}
use Rattle.hf_tracking.proofs.phasors.renewed.Goals as goal

pub returns-clause-sum : goal.returns-clause-sum
returns-clause-sum c =
    let heard = c.args.heard in
    let expected = c.args.expected in
    let h_a = c.requires.heard.first in
    let h_b = c.requires.heard.second in
    let e_a = c.requires.expected.first in
    let e_b = c.requires.expected.second in
    let five_a = c.five_eighths.ensures.bound in
    let five_b = c.five_eighths-2.ensures.bound in
    let kept_a = c.five_eighths.ensures.value ∙ ap five_eighths_of (part_is expected.a (omega arith)) in
    let kept_b = c.five_eighths-2.ensures.value ∙ ap five_eighths_of (part_is expected.b (omega arith)) in
    let a = sum_is heard.a c.five_eighths.result (omega arith) (omega arith) ∙ ap (λ z. heard.a +ℤ z) kept_a in
    let b = sum_is heard.b c.five_eighths-2.result (omega arith) (omega arith) ∙ ap (λ z. heard.b +ℤ z) kept_b in
    λ i. record { a = a i; b = b i }
