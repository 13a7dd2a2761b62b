use Rattle.fx25_ring.proofs.OneReader.{nothing_answered}
use Rattle.fx25_ring.proofs.ReceiverLemmas.{none_heard}
use Rattle.fx25_ring.proofs.receiver.Fx25RingReceiver.of_reader.Goals as goal

pub returns-clause-hears : goal.returns-clause-hears
returns-clause-hears c = λ len.
    none_heard len c.args.reader _ c.requires.fresh c.in_ok-new.ensures.stand c.in_ok-new.ensures.listen

pub returns-clause-nothing : goal.returns-clause-nothing
returns-clause-nothing c = λ len. nothing_answered len c.args.reader c.requires.fresh
