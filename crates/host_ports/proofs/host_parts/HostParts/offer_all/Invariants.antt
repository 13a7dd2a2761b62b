-- Those so far were offered what they should be.
use Rattle.host_ports.proofs.Common.{◌≡◌, ◌≤◌, take, IsAtRest}
use Rattle.host_ports.proofs.OfferLemmas.{OffersAll}
use Rattle.host_ports.proofs.host_parts.HostParts.offer_all.Given as goal

abbrev pub invariant-loop-id : goal.invariant-loop-id
invariant-loop-id g l = record {
  offers : OffersAll (take l.id-index l.id-items) l.initial.self
      (g.N.Ports.told l.initial.ports) l.self
      (g.N.Ports.told l.ports);
  rest : IsAtRest l.self;
  listens : (g.N.Ports.told l.ports).listens ≡ (g.N.Ports.told l.initial.ports).listens;
  dials : (g.N.Ports.told l.ports).dials ≡ (g.N.Ports.told l.initial.ports).dials;
  later : (g.N.Ports.told l.initial.ports).faults ≤ (g.N.Ports.told l.ports).faults;
}
