-- The turns so far.
use Rattle.tnc_ports.proofs.Common.{All, ◌≡◌, detection_of, ring_id, ring_len, reader_ring, readers_in, Runs}
use Rattle.tnc_ports.specs.SampledRun.{outside_by}
use Rattle.tnc_ports.proofs.looping.run.Given as goal

abbrev pub invariant-turns : goal.invariant-turns
invariant-turns g l =
    Runs l.initial.turning.words l.turning (ring_len l.ring) l.receiver
    (outside_by g.N.Ports.told g.K.KeyPort.told g.O.Sink.told g.E.Sink.told
    l.initial.ports l.initial.key l.initial.output l.initial.report)
    (outside_by g.N.Ports.told g.K.KeyPort.told g.O.Sink.told g.E.Sink.told l.ports l.key l.output l.report)
    × All (λ reader. reader_ring reader ≡ ring_id l.ring) (readers_in l.receiver)
    × (detection_of l.receiver ≡ l.initial.turning.words.dcd)
    × ((g.N.Ports.told l.ports).dials ≡ (g.N.Ports.told l.initial.ports).dials)
    × (reader_ring l.turning.meter.reader ≡ ring_id l.ring)
