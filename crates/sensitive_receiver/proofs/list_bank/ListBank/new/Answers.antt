use Rattle.sensitive_receiver.proofs.Common.{◌∙◌, ap, sym, subst, refl, Slow, tones, without_mean}
use Rattle.sensitive_receiver.proofs.Common.{LanesHaveRead, clock_after}
use Rattle.tone_tracking.specs.Correlation.{correlations}
use Rattle.sensitive_receiver.proofs.VisitedLanes.{read_none}
use Rattle.sensitive_receiver.proofs.list_bank.ListBank.new.Goals as goal

pub returns-clause-read : goal.returns-clause-read
returns-clause-read c = λ x.
    let ring = c.new.result in
    let start = sym c.new.ensures.place in
    let made = c.in_ok-new_lanes.ensures in
    record {
      decided = c.new.ensures.stands_for (correlations (without_mean x));
      clock = c.new-2.ensures.stands_for (tones ring.reach x) ∙ ap (clock_after Slow (tones ring.reach x)) start;
      lanes = subst (λ n. LanesHaveRead ring.reach c.in_ok-new_lanes.field-0.items n x) start
          (read_none ring.reach _ c.in_ok-new_lanes.field-0.items x made.count
          (record { count = refl; each = made.fresh }));
    }
