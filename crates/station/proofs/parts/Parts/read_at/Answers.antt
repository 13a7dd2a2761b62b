use Rattle.station.proofs.Common.{◌≡◌, Some, refl, with_item, on_ok_weaker, get_or, Kiss, Parts, Said, Connection}
use Rattle.station.proofs.Common.{connection_of, new_connection, IsSaid, Says}
use Rattle.std.proofs.lemmas.Result.{IfOk-weaker}
use Rattle.station.specs.declared.connection.Connection.{Connection as HeldConnection}
use Rattle.station.specs.Host.{with_octets}
use Rattle.station.proofs.TakeLemmas.{connection_at, place_is, shows_connections, stands_here, zip_changed, ids_set}
use Rattle.station.proofs.TakeLemmas.{on_any}
use Rattle.station.proofs.TakenLemmas.{said_by}
use Rattle.station.proofs.parts.Parts.read_at.Goals as goal

pub returns-clause-shows : goal.returns-clause-shows
returns-clause-shows c = λ out turn shows.
    let parts = c.args.self.now in
    let id = c.args.id in
    let k = c.args.place in
    let octets = c.args.octets.now in
    let held = parts.connections.items in
    let places = turn.now.connections in
    let connection : Connection = get_or places k (new_connection 0 Kiss) in
    let here = c.index_mut-connection.result.now in
    let stands = stands_here held places k here (new_connection 0 Kiss)
    shows.holds.connections c.requires.within c.index_mut-connection.ensures.value in
    let next : HeldConnection = record {
      id = here.id;
      raw = here.raw;
      monitors = here.monitors;
      came = parts.ticks;
      reader = c.read.new.self;
    } in
    let new : Parts = record parts { connections = with_item parts.connections k next } in
    on_ok_weaker c.read.result (λ reads.
    shows_connections parts new out turn id (with_octets turn.now.ticks octets) shows (λ connection. refl)
    (zip_changed id k (with_octets turn.now.ticks octets) next held places (new_connection 0 Kiss) shows.holds.connections
    (place_is id k held places shows.holds.connections shows.holds.ids c.requires)
    (record { id = stands.id; came = shows.holds.ticks; raw = stands.raw; monitors = stands.monitors; reader = reads }))
    refl refl refl refl refl refl refl refl refl refl refl refl)
    (c.read.ensures.stands_for connection.kind connection.stream stands.reader)

pub returns-clause-said : goal.returns-clause-said
returns-clause-said c = λ out turn shows.
    let id = c.args.id in
    let k = c.args.place in
    let octets = c.args.octets.now in
    let held = c.args.self.now.connections.items in
    let places = turn.now.connections in
    let connection : Connection = get_or places k (new_connection 0 Kiss) in
    let stands = stands_here held places k c.index_mut-connection.result.now (new_connection 0 Kiss)
    shows.holds.connections c.requires.within c.index_mut-connection.ensures.value in
    let own : connection_of id places ≡ Some connection =
    connection_at id k places (new_connection 0 Kiss)
    (place_is id k held places shows.holds.connections shows.holds.ids c.requires) in
    IfOk-weaker c.read.result (λ (said : Said). Says connection.kind connection.stream octets said)
    (λ (said : Said). IsSaid (connection_of id places) octets said)
    (λ said says. said_by octets said connection (connection_of id places) own says)
    (c.read.ensures.says connection.kind connection.stream stands.reader)

pub returns-clause-ids : goal.returns-clause-ids
returns-clause-ids c =
    let here = c.index_mut-connection.result.now in
    let next : HeldConnection = record {
      id = here.id;
      raw = here.raw;
      monitors = here.monitors;
      came = c.args.self.now.ticks;
      reader = c.read.new.self;
    } in
    on_any c.read.result (ids_set c.args.self.now.connections.items c.args.place next here refl
    c.index_mut-connection.ensures.value)
