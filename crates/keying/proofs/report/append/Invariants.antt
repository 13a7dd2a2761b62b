use Rattle.keying.proofs.Common.{◌≡◌, ◌++◌, take}
use Rattle.keying.proofs.report.append.Given as goal

abbrev pub invariant-loop-octet : goal.invariant-loop-octet
invariant-loop-octet l = l.line.items ≡ l.initial.line.items ++ take l.octet-index l.text
