use Rattle.sample_ring.specs.Ends.{ring_len}
use Rattle.ring_recorder.proofs.ReadLemmas.{ReadsOn}
use Rattle.ring_recorder.proofs.recorder.Recorder.advance.Given as goal

abbrev pub invariant-loop : goal.invariant-loop
invariant-loop l = ReadsOn (ring_len l.fn.ring) l.fn.self l.self l.counter
