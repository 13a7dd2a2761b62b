use Rattle.host_ports.proofs.Common.{refl, HostParts}
use Rattle.host_ports.proofs.ShutLemmas.{Forgets, forget_narrows, forget_gone, forget_one_less, forget_two_less}
use Rattle.host_ports.proofs.host_parts.HostParts.forget.Goals as goal

-- the parts without the connection
abbrev after : goal.After-remove_id → HostParts
after c = record c.args.self.now {
  clients = c.remove_client.new.clients;
  untaken = c.remove_untaken.new.untaken;
  leaving = c.remove_id.new.ids;
}

forgets : (c : goal.After-remove_id) → Forgets c.args.id c.args.self.now (after c)
forgets c = record {
  station = refl;
  came = refl;
  clients = c.remove_client.ensures;
  untaken = c.remove_untaken.ensures;
  report = refl;
  to_shut = refl;
  leaving = c.remove_id.ensures;
}

pub returns-clause-narrows : goal.returns-clause-narrows
returns-clause-narrows c = forget_narrows c.args.id c.args.self.now (after c) (forgets c)

pub returns-clause-gone : goal.returns-clause-gone
returns-clause-gone c = forget_gone c.args.id c.args.self.now (after c) (forgets c)

pub returns-clause-one_less : goal.returns-clause-one_less
returns-clause-one_less c = forget_one_less c.args.id c.args.self.now (after c) (forgets c)

pub returns-clause-two_less : goal.returns-clause-two_less
returns-clause-two_less c = forget_two_less c.args.id c.args.self.now (after c) (forgets c)
