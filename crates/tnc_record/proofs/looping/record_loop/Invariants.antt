-- The turns so far.
use Rattle.tnc_record.proofs.Common.{◌≡◌, ring_len, ReadsRing, Runs}
use Rattle.tnc_record.proofs.looping.record_loop.Given as goal

abbrev pub invariant-turns : goal.invariant-turns
invariant-turns g l =
    ReadsRing l.ring l.listening
    × Runs l.words l.listening (ring_len l.ring) (g.E.Sink.told l.initial.report)
    (g.E.Sink.told l.report)
    × (l.output ≡ l.initial.output)
