use Rattle.hf_tracking.proofs.TrackerLemmas.{stands_first}
use Rattle.hf_tracking.proofs.TrackLemmas.{bounded_none}
use Rattle.hf_tracking.proofs.hf_tracker.HfTracker.new.Goals as goal

pub returns-clause-stands_for : goal.returns-clause-stands_for
returns-clause-stands_for c = λ windows. stands_first windows

pub invariant_of-result : goal.invariant_of-result
invariant_of-result c = bounded_none 8
