use Rattle.ring_receiver.proofs.Common.{refl}
use Rattle.ring_receiver.proofs.AddedLemmas.{none_yet}
use Rattle.ring_receiver.proofs.added_lanes.AddedLanesStretchLanes.begin_at.Goals as goal

pub returns-clause-holds : goal.returns-clause-holds
returns-clause-holds c = record {
  stands = record { begin = refl; samples = c.in_ok-self.ensures.stands_for };
  are = none_yet c.args.position;
}
