use Rattle.station.proofs.Common.{List, map, refl, ◌∙◌, ap}
use Rattle.station.specs.declared.connection.Connection.{Connection as HeldConnection}
use Rattle.station.proofs.LeaveLemmas.{ids_filtered, shows_forgotten}
use Rattle.station.proofs.parts.Parts.forget.Goals as goal

pub returns-clause-shows : goal.returns-clause-shows
returns-clause-shows c = λ out turn shows.
    shows_forgotten c.args.self.now (record c.args.self.now {
      connections = c.remove_connection.new.connections;
      registrations = c.remove_registrations.new.registrations;
      askers = c.remove_askers.new.askers;
    }) out turn c.args.id shows
    c.remove_connection.ensures c.remove_registrations.ensures c.remove_askers.ensures refl refl refl refl refl refl refl refl refl refl

pub returns-clause-ids : goal.returns-clause-ids
returns-clause-ids c =
    ap (λ (items : List HeldConnection). map (λ (connection : HeldConnection). connection.id) items)
    c.remove_connection.ensures
    ∙ ids_filtered c.args.id c.args.self.now.connections.items
