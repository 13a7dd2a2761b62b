use Rattle.station.proofs.Common.{◌∙◌, ap, refl, sym}
use Rattle.std.specs.Prelude.{nat_le}
use Rattle.station.specs.Connections.{connection_of}
use Rattle.station.specs.Passing.{is_silent}
use Rattle.station.proofs.PassLemmas.{none_silent, one_silent}
use Rattle.station.proofs.parts.Parts.is_silent.Goals as goal

pub returns-in-Some : goal.returns-in-Some
returns-in-Some c = λ s holds.
    let parts = c.args.self.now in
    ap (nat_le 6000) c.saturating_sub.ensures
    ∙ one_silent c.args.id c.in-Some.place parts.ticks parts.connections.items s.connections c.index.result.now
    holds.connections holds.ids c.in-Some.ensures.place c.index.ensures
    ∙ ap (λ ticks. is_silent ticks (connection_of c.args.id s.connections)) holds.ticks

pub returns-in-None : goal.returns-in-None
returns-in-None c = λ s holds.
    sym (none_silent c.args.id s.ticks c.args.self.now.connections.items s.connections holds.connections
    (c.in-None.ensures.none refl))
