use Rattle.station.proofs.Common.{◌≡◌, true, false, is_some, new_connection, Connection, Kiss, Option, HasOtherId, get_or, ap, sym, refl}
use Rattle.station.proofs.TakeLemmas.{connection_at, connection_none, place_is}
use Rattle.station.proofs.parts.Parts.is_there.Goals as goal

pub returns-in-Some : goal.returns-in-Some
returns-in-Some c = λ s holds.
    let d : Connection = new_connection 0 Kiss in
    sym (ap (λ (o : Option Connection). is_some o) (connection_at c.args.id c.in-Some.field-0 s.connections d
    (place_is c.args.id c.in-Some.field-0 c.args.self.now.connections.items s.connections holds.connections holds.ids
    c.in-Some.ensures.place)))

pub returns-in-None : goal.returns-in-None
returns-in-None c = λ s holds.
    sym (ap (λ (o : Option Connection). is_some o) (connection_none c.args.id c.args.self.now.connections.items s.connections
    (new_connection 0 Kiss) holds.connections (c.in-None.ensures.none refl)))
