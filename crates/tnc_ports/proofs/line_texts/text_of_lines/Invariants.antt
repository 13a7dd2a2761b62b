use Rattle.tnc_ports.proofs.Common.{◌≡◌, take, report_text}
use Rattle.tnc_ports.proofs.line_texts.text_of_lines.Given as goal

abbrev pub invariant-loop-line : goal.invariant-loop-line
invariant-loop-line l = l.text.items ≡ report_text (take l.line-index l.lines)
