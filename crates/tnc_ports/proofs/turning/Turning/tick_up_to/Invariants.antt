-- The ticks so far.
use Rattle.tnc_ports.proofs.Common.{◌≡◌, ℕ, ◌+◌, ◌<◌, ◌≤◌, From, KeyedSince, Live, Keeps, TicksAll}
use Rattle.tnc_ports.proofs.Common.{reader_ring, ring_id, ring_len}
use Rattle.tnc_ports.specs.HeldMeter.{Measures}
use Rattle.tnc_ports.proofs.turning.Turning.tick_up_to.Given as goal

abbrev pub invariant-loop-tick : goal.invariant-loop-tick
invariant-loop-tick g l =
    ((from : From) (live : Live) → Keeps l.initial.self.hosts live.hosts → l.initial.self.ticks ≡ live.ticks
    → Measures (ring_len l.ring) l.initial.self.words.rate l.initial.self.meter live
    → KeyedSince from l.initial.self live (g.O.Sink.told l.initial.output)
    (g.E.Sink.told l.initial.report)
    (g.K.KeyPort.told l.initial.key)
    → (count : ℕ) × (l.tick ≡ live.ticks + count) × (0 < count → l.tick ≤ l.tick-end)
    × TicksAll from l.busy count (ring_len l.ring) l.initial.self l.self live
    (g.O.Sink.told l.initial.output) (g.O.Sink.told l.output)
    (g.E.Sink.told l.initial.report) (g.E.Sink.told l.report)
    (g.K.KeyPort.told l.key))
    × (l.self.words ≡ l.initial.self.words)
    × (reader_ring l.self.meter.reader ≡ ring_id l.ring)
