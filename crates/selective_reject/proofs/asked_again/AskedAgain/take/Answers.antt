use Rattle.std.proofs.Common.{◌≡◌, drop, subst, sym, rules}
use Rattle.selective_reject.specs.Again.{RisesBelow}
use Rattle.selective_reject.proofs.AgainLemmas.{rises_rest}
use Rattle.selective_reject.proofs.asked_again.AskedAgain.take.Goals as goal

pub invariant_of-self : goal.invariant_of-self
invariant_of-self c =
    let is : c.pop_at.new.self.items ≡ drop 1 c.self.inside.numbers.items = search rules in
    subst (RisesBelow 0 127) (sym is) (rises_rest 0 127 c.self.inside.numbers.items c.self.invariant)
