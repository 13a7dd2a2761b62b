use Rattle.station.proofs.Common.{◌∙◌, ap, sym, refl}
use Rattle.station.specs.Askers.{is_kiss}
use Rattle.station.specs.HeldConnections.{kind_of}
use Rattle.station.specs.declared.connection.Reader.{Reader}
use Rattle.station.proofs.AskerLemmas.{none_speaks, one_speaks}
use Rattle.station.proofs.parts.Parts.speaks_kiss.Goals as goal

pub returns-in-KissReader : goal.returns-in-KissReader
returns-in-KissReader c = λ s holds.
    sym (ap (λ (reader : Reader). is_kiss (kind_of reader)) c.in-KissReader.is)
    ∙ one_speaks c.args.id c.in-Some.place c.args.self.now.connections.items s.connections c.index.result.now
    holds.connections holds.ids c.in-Some.ensures.place c.index.ensures

pub returns-in_default : goal.returns-in_default
returns-in_default c = λ s holds.
    sym (ap (λ (reader : Reader). is_kiss (kind_of reader)) c.in_default.is)
    ∙ one_speaks c.args.id c.in-Some.place c.args.self.now.connections.items s.connections c.index.result.now
    holds.connections holds.ids c.in-Some.ensures.place c.index.ensures

pub returns-in-None : goal.returns-in-None
returns-in-None c = λ s holds.
    sym (none_speaks c.args.id c.args.self.now.connections.items s.connections holds.connections
    (c.in-None.ensures.none refl))
