use Rattle.std.proofs.Common.{subst, sym, arith}
use Rattle.selective_reject.specs.Again.{RisesBelow}
use Rattle.selective_reject.proofs.asked_again.AskedAgain.clear.Goals as goal

pub invariant_of-self : goal.invariant_of-self
invariant_of-self c = subst (RisesBelow 0 127) (sym c.clear.ensures) (omega arith)
