-- No id changes.
use Rattle.host_ports.proofs.Common.{◌≡◌, ids_of_sockets}
use Rattle.host_ports.proofs.sockets.note_all.Given as goal

abbrev pub invariant-loop-at : goal.invariant-loop-at
invariant-loop-at l = ids_of_sockets l.sockets.items ≡ ids_of_sockets l.initial.sockets.items
