use Rattle.reed_solomon.proofs.Common.{Meet}
use Rattle.reed_solomon.proofs.kernel.first_miss.Given as goal

abbrev pub invariant-loop-k : goal.invariant-loop-k
invariant-loop-k l = Meet l.rows l.k l.equation
