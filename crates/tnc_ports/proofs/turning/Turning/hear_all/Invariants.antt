-- The frames so far.
use Rattle.tnc_ports.proofs.Common.{◌≡◌, take, Hosts, Keeps, HearsFrames}
use Rattle.tnc_ports.proofs.turning.Turning.hear_all.Given as goal

abbrev pub invariant-loop-item : goal.invariant-loop-item
invariant-loop-item g l =
    ((hosts : Hosts) → Keeps l.initial.self.hosts hosts
    → HearsFrames (take l.item-index l.items) l.initial.self l.self hosts
    (g.E.Sink.told l.initial.report) (g.E.Sink.told l.report))
    × (l.self.words ≡ l.initial.self.words) × (l.self.ticks ≡ l.initial.self.ticks)
    × (l.self.key ≡ l.initial.self.key) × (l.self.meter ≡ l.initial.self.meter)
