use Rattle.ring_receiver.proofs.Common.{true, subst, HeldReceiver, held_of, AreGrownBy}
use Rattle.ring_receiver.specs.HeldReceiver.{records_in}
use Rattle.ring_receiver.specs.Readers.{readers_wanted}
use Rattle.ring_receiver.proofs.receiver.RingReceiver.advance.Goals as goal

pub returns-in_err-heard-clause-grown : goal.returns-in_err-heard-clause-grown
returns-in_err-heard-clause-grown g c =
    subst (λ (v : HeldReceiver). AreGrownBy (readers_wanted v.sensitive) (records_in v)
    (records_in (held_of c.hear.new.bank c.hear.new.added c.hear.new.merger true)))
    c.self.view_is c.hear.ensures.stay.grown

pub returns-clause-grown : goal.returns-clause-grown
returns-clause-grown g c =
    subst (λ (v : HeldReceiver). AreGrownBy (readers_wanted v.sensitive) (records_in v)
    (records_in (held_of c.hear.new.bank c.hear.new.added c.hear.new.merger true)))
    c.self.view_is c.hear.ensures.stay.grown
