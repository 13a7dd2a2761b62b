use Rattle.tone_tracking.proofs.Common.{[], ◌∷◌, FitsSigned, w64, ap, ◌∙◌, sym, arith, rules, to_z-of_z, Mark, Space}
use Rattle.tone_tracking.proofs.Common.{ahead, largest, plus, turn_back}
use Rattle.tone_tracking.proofs.PhasorLemmas.{sum_within, turned_back_within, within_more}
use Rattle.tone_tracking.proofs.DecisionLemmas.{decided_by, turned-two}
use Rattle.tone_tracking.proofs.decision.decide_far.Goals as goal

pub loudest_far-space-requires-clause-from : goal.loudest_far-space-requires-clause-from
loudest_far-space-requires-clause-from c =
    within_more 1487000000 1490000000 _ (turned_back_within 1487000000 Space _ _ c.turned_back.ensures
    (sum_within 1190000000 297000000 _ _ _ c.plus-2.ensures c.requires.past c.requires.now.space)) (omega arith)

pub returns : goal.returns
returns c =
    let fits_mark : FitsSigned w64 c.loudest_far-mark.result = search rules in
    let fits_space : FitsSigned w64 c.loudest_far-space.result = search rules in
    let louder = simp to_z-of_z at c.louder.ensures in
    let next = c.args.next.now ∷ c.args.later.now ∷ [] in
    decided_by c.args.past c.args.now.now next c.loudest_far-mark.result c.loudest_far-space.result c.louder.result
    (c.loudest_far-mark.ensures ∙ ap (λ p. largest p (ahead Mark next)) c.plus.ensures)
    (c.loudest_far-space.ensures ∙ ap (λ p. largest p (ahead Mark next)) c.turned_back.ensures
    ∙ ap (λ p. largest (turn_back Space p) (ahead Mark next)) c.plus-2.ensures
    ∙ sym (turned-two (plus c.args.past c.args.now.now.space) c.args.next.now c.args.later.now))
    louder
