-- The sockets are told of those so far.
use Rattle.host_ports.proofs.Common.{◌≡◌, take, AreShut}
use Rattle.host_ports.proofs.offering.tell_shut.Given as goal

abbrev pub invariant-loop-id : goal.invariant-loop-id
invariant-loop-id g l = record {
  shut : AreShut (take l.id-index l.ids)
      (g.N.Ports.told l.initial.ports)
      (g.N.Ports.told l.ports);
  listens : (g.N.Ports.told l.ports).listens ≡ (g.N.Ports.told l.initial.ports).listens;
  dials : (g.N.Ports.told l.ports).dials ≡ (g.N.Ports.told l.initial.ports).dials;
}
