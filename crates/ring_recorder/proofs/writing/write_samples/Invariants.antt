use Rattle.std.proofs.Common.{length}
use Rattle.ring_recorder.proofs.WriteLemmas.{WroteUpTo}
use Rattle.ring_recorder.proofs.writing.write_samples.Given as goal

abbrev pub invariant-pieces : goal.invariant-pieces
invariant-pieces g l =
    WroteUpTo l.fn.samples l.rest (g.O.Sink.told l.fn.output).written (g.O.Sink.told l.output).written
    (g.O.Sink.told l.fn.output).faults
    (g.O.Sink.told l.output).faults

abbrev pub decreases-pieces : goal.decreases-pieces
decreases-pieces g l = length l.rest
