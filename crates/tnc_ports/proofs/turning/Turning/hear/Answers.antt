use Rattle.tnc_ports.proofs.Common.{◌++◌, ap, ◌∙◌, report_text}
use Rattle.tnc_ports.proofs.LiveSteps.{hears_frame}
use Rattle.tnc_ports.proofs.turning.Turning.hear.Goals as goal

pub returns-clause-heard : goal.returns-clause-heard
returns-clause-heard g c = λ hosts keeps.
    hears_frame c.args.octets.now c.args.self.now _ c.hear.new.self hosts c.in_ok-shown.shown.items
    c.take_lines-lines.result.items c.deref-3.result.now _ _
    keeps (c.in_ok-shown.ensures hosts hosts.report keeps) c.in_ok-hear.ensures.step c.take_lines-lines.ensures.taken
    (c.deref-3.ensures.value ∙ c.in_ok-text.ensures ∙ ap (λ x. report_text (x ++ c.deref-2.result.now))
    c.deref.ensures.value
    ∙ ap (λ x. report_text (c.in_ok-shown.shown.items ++ x)) c.deref-2.ensures.value)
    c.put.ensures
