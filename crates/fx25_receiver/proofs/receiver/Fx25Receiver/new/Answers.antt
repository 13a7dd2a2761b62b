use Rattle.fx25_receiver.proofs.Common.{[], refl, arith}
use Rattle.fx25_receiver.proofs.HeardLemmas.{nothing_heard}
use Rattle.fx25_receiver.proofs.LaneLemmas.{fresh_stand}
use Rattle.fx25_receiver.proofs.receiver.Fx25Receiver.new.Goals as goal

pub returns-clause-stands_for : goal.returns-clause-stands_for
returns-clause-stands_for c = record {
  spent = refl;
  recent = refl;
  taken = record {
    count = refl;
    lanes_stand = (let made = c.in_ok-new_lanes.ensures in fresh_stand _ made.count made.fresh);
    has_heard = record {
      heard = [];
      are = nothing_heard;
      keeps = record { least = 0; below = omega arith; kept_is = c.new.ensures.items };
      given_is = refl;
    };
  };
}
