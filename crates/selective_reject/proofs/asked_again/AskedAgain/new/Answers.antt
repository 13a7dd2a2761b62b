use Rattle.std.proofs.Common.{subst, sym, arith}
use Rattle.selective_reject.specs.Again.{RisesBelow}
use Rattle.selective_reject.proofs.asked_again.AskedAgain.new.Goals as goal

pub invariant_of-result : goal.invariant_of-result
invariant_of-result c = subst (RisesBelow 0 127) (sym c.new.ensures) (omega arith)
