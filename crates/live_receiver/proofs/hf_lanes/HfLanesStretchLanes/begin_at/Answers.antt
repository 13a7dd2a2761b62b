use Rattle.live_receiver.proofs.Common.{refl}
use Rattle.live_receiver.proofs.HeardLemmas.{none_yet}
use Rattle.live_receiver.proofs.hf_lanes.HfLanesStretchLanes.begin_at.Goals as goal

pub returns-clause-holds : goal.returns-clause-holds
returns-clause-holds c = record {
  stands = record {
    begin = refl;
    samples = c.in_ok-restart.ensures.stands_for;
    added = c.in_ok-self.ensures.stand_for;
  };
  are = none_yet c.args.self.now.sensitive c.args.position;
}
