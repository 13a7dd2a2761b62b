use Rattle.channel_access.proofs.Common.{subst, sym, new_channel_by, StandsForSome}
use Rattle.channel_access.proofs.QueueLemmas.{stands_new}
use Rattle.channel_access.proofs.access.Access.new.Goals as goal

pub invariant_of-result : goal.invariant_of-result
invariant_of-result c =
    subst StandsForSome (sym c.in_ok-new.ensures)
    (new_channel_by c.args.modem c.args.seed, stands_new c.args.modem c.args.seed)
