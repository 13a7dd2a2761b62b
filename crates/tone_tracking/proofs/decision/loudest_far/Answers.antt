use Rattle.tone_tracking.proofs.Common.{[], ◌∷◌, FitsSigned, w64, ap, ◌∙◌, sym, arith, rules, int_max, to_z-of_z, Mark}
use Rattle.tone_tracking.proofs.Common.{Space, ahead, largest, turn_back}
use Rattle.tone_tracking.proofs.PhasorLemmas.{sum_within, turned_back_within, within_more}
use Rattle.tone_tracking.proofs.DecisionLemmas.{largest-two}
use Rattle.tone_tracking.proofs.decision.loudest_far.Goals as goal

pub loudest_near-space-requires-clause-from : goal.loudest_near-space-requires-clause-from
loudest_near-space-requires-clause-from c =
    within_more 1787000000 1790000000 _ (turned_back_within 1787000000 Space _ _ c.turned_back.ensures
    (sum_within 1490000000 297000000 _ _ _ c.plus-2.ensures c.requires.from c.requires.next.space)) (omega arith)

pub returns : goal.returns
returns c =
    let fits : FitsSigned w64 c.max.result = search rules in
    let fits_mark : FitsSigned w64 c.loudest_near-mark.result = search rules in
    let fits_space : FitsSigned w64 c.loudest_near-space.result = search rules in
    let later = ahead Mark (c.args.later.now ∷ []) in
    let mark = to_z-of_z w64 c.loudest_near-mark.result fits_mark ∙ c.loudest_near-mark.ensures
    ∙ ap (λ p. largest p later) c.plus.ensures in
    let space = to_z-of_z w64 c.loudest_near-space.result fits_space ∙ c.loudest_near-space.ensures
    ∙ ap (λ p. largest p later) c.turned_back.ensures
    ∙ ap (λ p. largest (turn_back Space p) later) c.plus-2.ensures in
    to_z-of_z w64 c.max.result fits ∙ c.max.ensures.value ∙ (λ i. int_max (mark i) (space i))
    ∙ sym (largest-two c.args.from c.args.next.now c.args.later.now)
