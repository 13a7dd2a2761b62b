use Rattle.std.proofs.Common.{[], ◌∷◌, subst, ◌∙◌}
use Rattle.keying.specs.Texts.{report_text as key_text}
use Rattle.tnc_ports.specs.SampledWrites.{Puts}
use Rattle.tnc_ports.proofs.LiveWrites.{puts_puts}
use Rattle.tnc_ports.proofs.key_lines.put_line.Goals as goal

pub returns : goal.returns
returns g c =
    puts_puts c.args.failed.now c.put.new.failed c.put-2.new.failed (key_text c.args.line) (10 ∷ []) _ _ _
    (subst (λ t. Puts c.args.failed.now c.put.new.failed t
    (g.E.Sink.told c.args.report.now)
    (g.E.Sink.told c.put.new.sink)) (c.as_slice.ensures.value ∙ c.text.ensures)
    c.put.ensures)
    c.put-2.ensures
