-- Those that came so far have joined.
use Rattle.host_ports.proofs.Common.{Admits}
use Rattle.host_ports.proofs.door.Door.admit.Given as goal

abbrev pub invariant-loop : goal.invariant-loop
invariant-loop l = record {
  admits : Admits l.fn.self.kind l.initial.events.items l.events.items l.initial.sockets.next l.sockets.next;
}
