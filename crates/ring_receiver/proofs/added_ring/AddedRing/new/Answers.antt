use Rattle.ring_receiver.proofs.AddedLemmas.{none_listened}
use Rattle.ring_receiver.proofs.added_ring.AddedRing.new.Goals as goal

pub returns-clause-listens : goal.returns-clause-listens
returns-clause-listens c = λ len. none_listened len _ c.requires.fresh c.in_ok-new.ensures.hold
