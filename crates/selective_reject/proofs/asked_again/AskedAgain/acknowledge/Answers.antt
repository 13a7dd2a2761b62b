use Rattle.std.proofs.Common.{◌-◌, subst, sym, arith}
use Rattle.selective_reject.specs.Again.{RisesBelow, numbers_from}
use Rattle.selective_reject.proofs.AgainLemmas.{rises_from, rises_lower}
use Rattle.selective_reject.proofs.asked_again.AskedAgain.acknowledge.Goals as goal

pub invariant_of-self : goal.invariant_of-self
invariant_of-self c =
    let numbers = c.self.inside.numbers.items in
    subst (RisesBelow 0 127) (sym c.counted_from-self-inside.ensures.numbers)
    (rises_lower (0 - c.args.count) 0 127 (numbers_from c.args.count numbers) (omega arith)
    (rises_from c.args.count 0 127 numbers c.self.invariant))
