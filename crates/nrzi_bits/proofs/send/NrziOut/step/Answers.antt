use Rattle.std.proofs.Common.{sym, ap, ◌∙◌}
use Rattle.nrzi_bits.specs.Line.{line, last_tone}
use Rattle.nrzi_bits.proofs.LineLemmas.{last_tone-push, line-push}
use Rattle.nrzi_bits.proofs.send.NrziOut.step.Goals as goal

pub returns-clause-line : goal.returns-clause-line
returns-clause-line c = λ bits at.
    line-push c.self.inside.before bits c.args.bit _ (c.self.view_is ∙ at) c.sent-self-inside.ensures

pub returns-clause-stands_for : goal.returns-clause-stands_for
returns-clause-stands_for c = λ bits at.
    sym (last_tone-push (line bits) _) ∙ ap last_tone (sym (returns-clause-line c bits at))
