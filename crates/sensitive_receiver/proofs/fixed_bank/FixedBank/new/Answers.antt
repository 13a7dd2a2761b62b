use Rattle.sensitive_receiver.proofs.Common.{◌+◌, get_or, sym, subst, arith}
use Rattle.slicer_bank.specs.ToneLanes.{ToneLaneStandsFor}
use Rattle.sensitive_receiver.proofs.VisitedLanes.{tones_of_none}
use Rattle.sensitive_receiver.proofs.fixed_bank.FixedBank.new.Goals as goal

pub returns-clause-read : goal.returns-clause-read
returns-clause-read c = λ x.
    let lanes = c.in_ok-new_lanes.field-0.items in
    let made = c.in_ok-new_lanes.ensures in
    let count = made.count in
    record {
      lanes = λ k d l. subst (ToneLaneStandsFor (get_or lanes k d)) (sym (tones_of_none x (8 + k)))
          (made.fresh k d (omega arith));
    }
