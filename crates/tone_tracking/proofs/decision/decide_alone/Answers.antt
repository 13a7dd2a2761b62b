use Rattle.tone_tracking.proofs.Common.{[], FitsSigned, w64, ap, ◌∙◌, sym, rules, to_z-of_z, plus, size}
use Rattle.tone_tracking.proofs.DecisionLemmas.{decided_by, largest-none}
use Rattle.tone_tracking.proofs.decision.decide_alone.Goals as goal

pub returns : goal.returns
returns c =
    let fits_mark : FitsSigned w64 c.size-mark.result = search rules in
    let fits_space : FitsSigned w64 c.size-space.result = search rules in
    let louder = simp to_z-of_z at c.louder.ensures in
    decided_by c.args.past c.args.now.now [] c.size-mark.result c.size-space.result c.louder.result
    (c.size-mark.ensures ∙ ap size c.plus.ensures ∙ sym (largest-none (plus c.args.past c.args.now.now.mark)))
    (c.size-space.ensures ∙ ap size c.plus-2.ensures ∙ sym (largest-none (plus c.args.past c.args.now.now.space)))
    louder
