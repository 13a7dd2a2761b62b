-- No id changes.
use Rattle.host_ports.proofs.Common.{◌≡◌}
use Rattle.host_ports.proofs.real_ports.note_ready.Given as goal

abbrev pub invariant-loop-event : goal.invariant-loop-event
invariant-loop-event l = l.sockets ≡ l.initial.sockets
