use Rattle.tnc_ports.proofs.Common.{ap, inr, ◌∙◌, report_text}
use Rattle.host_ports.proofs.ResultLemmas.{on_err}
use Rattle.tnc_ports.proofs.LiveSteps.{serves_all}
use Rattle.tnc_ports.proofs.turning.Turning.serve_hosts.Goals as goal

pub returns-clause-served : goal.returns-clause-served
returns-clause-served g c = λ hosts keeps.
    serves_all c.args.self.now _ c.part.new.self hosts c.take_lines-lines.result.items c.deref-2.result.now _ _ _ _
    keeps c.in_ok-part.ensures.part c.take_lines-lines.ensures.taken
    (c.deref-2.ensures.value ∙ c.in_ok-text.ensures ∙ ap report_text c.deref.ensures.value)
    c.put.ensures

pub returns-in_err-text-clause-cut : goal.returns-in_err-text-clause-cut
returns-in_err-text-clause-cut g c = λ hosts keeps.
    let given = c.in_ok-part.ensures.part hosts hosts.report keeps in
    on_err c.from_residual-in_err-text.result _ (inr (given.0, given.1, inr (inr given.2), given.5))
