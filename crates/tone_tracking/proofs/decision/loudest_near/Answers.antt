use Rattle.tone_tracking.proofs.Common.{FitsSigned, w64, ap, ◌∙◌, sym, rules, int_max, to_z-of_z, size}
use Rattle.tone_tracking.proofs.DecisionLemmas.{largest-one}
use Rattle.tone_tracking.proofs.decision.loudest_near.Goals as goal

pub returns : goal.returns
returns c =
    let fits : FitsSigned w64 c.max.result = search rules in
    let fits_mark : FitsSigned w64 c.size-mark.result = search rules in
    let fits_space : FitsSigned w64 c.size-space.result = search rules in
    let mark = to_z-of_z w64 c.size-mark.result fits_mark ∙ c.size-mark.ensures ∙ ap size c.plus.ensures in
    let space = to_z-of_z w64 c.size-space.result fits_space ∙ c.size-space.ensures ∙ ap size c.plus-2.ensures in
    to_z-of_z w64 c.max.result fits ∙ c.max.ensures.value ∙ (λ i. int_max (mark i) (space i))
    ∙ sym (largest-one c.args.from c.args.next.now)
