use Rattle.fx25_ring.proofs.OneReader.{nothing_answered}
use Rattle.live_receiver.proofs.ReceiverLemmas.{none_heard}
use Rattle.live_receiver.proofs.hf_receiver.HfReceiver.of_reader.Goals as goal

pub returns-clause-hears : goal.returns-clause-hears
returns-clause-hears c = λ len.
    none_heard len c.args.reader _ _ c.requires.fresh c.in_ok-new.ensures.hold c.in_ok-new-2.ensures.stands_for

pub returns-clause-nothing : goal.returns-clause-nothing
returns-clause-nothing c = λ len. nothing_answered len c.args.reader c.requires.fresh
