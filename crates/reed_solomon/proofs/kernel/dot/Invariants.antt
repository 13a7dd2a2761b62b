use Rattle.reed_solomon.proofs.Common.{◌≡◌, take, dot}
use Rattle.reed_solomon.proofs.kernel.dot.Given as goal

abbrev pub invariant-loop-i : goal.invariant-loop-i
invariant-loop-i l = l.sum ≡ dot (take l.i l.coefficients) (take l.i l.syndromes)
