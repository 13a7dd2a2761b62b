use Rattle.sensitive_receiver.proofs.VisitedLanes.{Visited}
use Rattle.sensitive_receiver.proofs.hearing.hear_slow.Given as goal

abbrev pub invariant-loop-index : goal.invariant-loop-index
invariant-loop-index l = Visited l.ring l.at l.initial.lanes l.lanes l.initial.found.items l.found.items 0 l.index
