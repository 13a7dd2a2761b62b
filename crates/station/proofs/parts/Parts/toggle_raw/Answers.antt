use Rattle.station.proofs.Common.{refl, with_item, ap, Kiss, Parts, Connection, new_connection, turned_raw}
use Rattle.station.specs.declared.connection.Connection.{Connection as HeldConnection}
use Rattle.station.proofs.TakeLemmas.{none_changed, place_is, shows_connections, stands_here, stands_turned}
use Rattle.station.proofs.TakeLemmas.{zip_changed, ids_set}
use Rattle.station.proofs.parts.Parts.toggle_raw.Goals as goal

pub returns-in_default-clause-shows : goal.returns-in_default-clause-shows
returns-in_default-clause-shows c = λ out turn shows.
    shows_connections c.args.self.now c.args.self.now out turn c.args.id turned_raw shows (λ connection. refl)
    (none_changed c.args.id turned_raw c.args.self.now.connections.items turn.now.connections shows.holds.connections
    (c.in_default.ensures.none refl)) refl refl refl refl refl refl refl refl refl refl refl refl

pub returns-clause-shows : goal.returns-clause-shows
returns-clause-shows c = λ out turn shows.
    let parts = c.args.self.now in
    let id = c.args.id in
    let k = c.in-Some.place in
    let held = parts.connections.items in
    let places = turn.now.connections in
    let d : Connection = new_connection 0 Kiss in
    let at = c.in-Some.ensures.place in
    let new : Parts = record parts { connections = with_item parts.connections k c.toggle_raw.new.connection } in
    shows_connections parts new out turn id turned_raw shows (λ connection. refl)
    (zip_changed id k turned_raw c.toggle_raw.new.connection held places d shows.holds.connections
    (place_is id k held places shows.holds.connections shows.holds.ids at)
    (stands_turned c.index_mut.result.now c.toggle_raw.new.connection _
    (stands_here held places k c.index_mut.result.now d shows.holds.connections at.within c.index_mut.ensures.value)
    c.toggle_raw.ensures))
    refl refl refl refl refl refl refl refl refl refl refl refl

pub returns-clause-ids : goal.returns-clause-ids
returns-clause-ids c =
    ids_set c.args.self.now.connections.items c.in-Some.place c.toggle_raw.new.connection c.index_mut.result.now
    (ap (λ (item : HeldConnection). item.id) c.toggle_raw.ensures) c.index_mut.ensures.value
