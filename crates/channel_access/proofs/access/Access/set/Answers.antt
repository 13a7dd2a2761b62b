use Rattle.channel_access.proofs.Common.{subst, sym, with_setting, StandsForSome}
use Rattle.channel_access.proofs.QueueLemmas.{stands_set}
use Rattle.channel_access.proofs.access.Access.set.Goals as goal

pub invariant_of-self : goal.invariant_of-self
invariant_of-self c =
    let some = c.self.invariant in
    subst StandsForSome (sym c.set.ensures)
    (with_setting c.args.param some.0, stands_set c.args.param c.self.inside.transmitter some.0 some.1)
