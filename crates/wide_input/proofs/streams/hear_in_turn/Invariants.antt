use Rattle.wide_input.proofs.Visits.{Visited, DidHear}
use Rattle.wide_input.proofs.streams.hear_in_turn.Given as goal

abbrev pub invariant-loop-stream : goal.invariant-loop-stream
invariant-loop-stream l = Visited (DidHear l.block) l.initial.streams l.streams l.stream-index
