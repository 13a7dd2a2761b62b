use Rattle.tone_tracking.proofs.RingLemmas.{ring_first}
use Rattle.tone_tracking.proofs.tone_ring.ToneRing.new.Goals as goal

pub returns-clause-stands_for : goal.returns-clause-stands_for
returns-clause-stands_for c = λ windows. ring_first c.args.reach windows
