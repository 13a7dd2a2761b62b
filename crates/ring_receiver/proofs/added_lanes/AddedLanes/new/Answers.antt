use Rattle.ring_receiver.proofs.Common.{refl}
use Rattle.ring_receiver.proofs.AddedLemmas.{none_yet}
use Rattle.ring_receiver.proofs.added_lanes.AddedLanes.new.Goals as goal

pub returns-clause-hold : goal.returns-clause-hold
returns-clause-hold c = record {
  stands = record { begin = refl; samples = c.in_ok-new.ensures.stands_for };
  are = none_yet 0;
}
