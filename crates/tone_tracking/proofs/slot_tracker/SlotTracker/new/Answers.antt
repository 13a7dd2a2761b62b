use Rattle.tone_tracking.proofs.Common.{sym}
use Rattle.tone_tracking.specs.declared.reach.Reach.TheVariants.{Near, Far}
use Rattle.tone_tracking.proofs.TrackerLemmas.{past_at-first}
use Rattle.tone_tracking.proofs.slot_tracker.SlotTracker.new.Goals as goal

pub returns : goal.returns
returns c = λ windows place small. record {
  near = sym (past_at-first Near windows place small);
  far = sym (past_at-first Far windows place small);
}
