use Rattle.slicer_bank.proofs.Common.{ring_len}
use Rattle.slicer_bank.proofs.RingJobLemmas.{ReadsOn}
use Rattle.slicer_bank.proofs.ring_lane.RingLane.read_on.Given as goal

abbrev pub invariant-loop : goal.invariant-loop
invariant-loop l = ReadsOn (ring_len l.fn.ring) l.fn.self l.self l.counter
