use Rattle.tone_tracking.proofs.TrackerLemmas.{stands_first}
use Rattle.tone_tracking.proofs.tone_tracker.ToneTracker.new.Goals as goal

pub returns-clause-stands_for : goal.returns-clause-stands_for
returns-clause-stands_for c = λ windows. stands_first c.args.reach windows
