use Rattle.live_receiver.proofs.Common.{refl}
use Rattle.live_receiver.proofs.HeardLemmas.{none_yet}
use Rattle.live_receiver.proofs.hf_lanes.HfLanes.new.Goals as goal

pub returns-clause-hold : goal.returns-clause-hold
returns-clause-hold c = record {
  stands = record {
    begin = refl;
    samples = c.in_ok-new.ensures.stands_for;
    added = c.in_ok-banks_of.ensures.stand_for;
  };
  are = none_yet c.args.sensitive 0;
}
