use Rattle.tnc_ports.proofs.Common.{◌≡◌, map, take, gap_line}
use Rattle.tnc_ports.proofs.turning.gap_lines.Given as goal

abbrev pub invariant-loop-gap : goal.invariant-loop-gap
invariant-loop-gap l = l.lines.items ≡ map gap_line (take l.gap-index l.gaps)
