use Rattle.hf_modem.proofs.Common.{refl}
use Rattle.hf_modem.proofs.bank.HfBank.new.Goals as goal

pub returns-clause-stands_for : goal.returns-clause-stands_for
returns-clause-stands_for c =
    record { count = refl; recent = c.new.ensures; lanes = c.in_ok-new_lanes.ensures.stand_for }
