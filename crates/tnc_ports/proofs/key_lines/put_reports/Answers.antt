use Rattle.std.proofs.Common.{List, ◌++◌, sym, ap, subst, ◌∙◌}
use Rattle.std.specs.Prelude.{Bool, map}
use Rattle.keying.specs.declared.report.Report.{Report}
use Rattle.key_port.specs.KeyEvents.{ready_report, lost_report, tick_report}
use Rattle.tnc_ports.proofs.Common.{SinkTold, Puts, map-append, key_line, report_text}
use Rattle.tnc_ports.proofs.LiveWrites.{puts_puts, report_text-append}
use Rattle.tnc_ports.proofs.key_lines.put_reports.Goals as goal

puts_lines : (a b : List Report) (f m f' : Bool) (r r' r'' : SinkTold)
    → Puts f m (report_text (map key_line a)) r r' → Puts m f' (report_text (map key_line b)) r' r''
    → Puts f f' (report_text (map key_line (a ++ b))) r r''
puts_lines a b f m f' r r' r'' h g =
    subst (λ t. Puts f f' t r r'')
    (sym (ap report_text (map-append key_line a b) ∙ report_text-append (map key_line a) (map key_line b)))
    (puts_puts f m f' (report_text (map key_line a)) (report_text (map key_line b)) r r' r'' h g)

pub returns : goal.returns
returns g c =
    puts_lines (ready_report c.args.told.ready) _ c.args.failed.now c.put_ready.new.failed c.put_lost-2.new.failed
    _ _ _ c.put_ready.ensures
    (puts_lines (lost_report c.args.told.lost) _ c.put_ready.new.failed c.put_lost.new.failed c.put_lost-2.new.failed
    _ _ _ c.put_lost.ensures
    (puts_lines (tick_report c.args.told.off) (lost_report c.args.told.failed) c.put_lost.new.failed
    c.put_if.new.failed c.put_lost-2.new.failed _ _ _ c.put_if.ensures c.put_lost-2.ensures))
