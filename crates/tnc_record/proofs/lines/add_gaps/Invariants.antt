use Rattle.tnc_record.proofs.Common.{◌≡◌, ◌++◌, take, text_of_gaps}
use Rattle.tnc_record.proofs.lines.add_gaps.Given as goal

abbrev pub invariant-loop-gap : goal.invariant-loop-gap
invariant-loop-gap l = l.text.items ≡ l.initial.text.items ++ text_of_gaps (take l.gap-index l.gaps)
