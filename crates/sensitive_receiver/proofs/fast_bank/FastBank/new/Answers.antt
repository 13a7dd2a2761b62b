use Rattle.sensitive_receiver.proofs.Common.{sym, subst, ◌∙◌, ap, Fast, Near, LaneStandsFor, clock_after, lane_tones, tones, without_mean}
use Rattle.tone_tracking.specs.Correlation.{correlations}
use Rattle.sensitive_receiver.proofs.VisitedLanes.{tones_of_none}
use Rattle.sensitive_receiver.proofs.fast_bank.FastBank.new.Goals as goal

pub returns-clause-read : goal.returns-clause-read
returns-clause-read c = λ x.
    let start = sym c.new.ensures.place in
    record {
      list = c.new.ensures.reach;
      decided = c.new.ensures.stands_for (correlations (without_mean x));
      clock = c.new-2.ensures.stands_for (tones Near x) ∙ ap (clock_after Fast (tones Near x)) start;
      lane = subst (λ n. LaneStandsFor c.new-3.result (lane_tones x 22 n)) start
          (subst (LaneStandsFor c.new-3.result) (sym (tones_of_none x 22)) c.new-3.ensures.stands_for);
    }
