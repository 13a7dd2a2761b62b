-- The ids so far.
use Rattle.host_ports.proofs.Common.{◌≡◌, take, ids_of_clients}
use Rattle.host_ports.proofs.host_parts.HostParts.ids.Given as goal

abbrev pub invariant-loop-client : goal.invariant-loop-client
invariant-loop-client l = l.ids.items ≡ ids_of_clients (take l.client-index l.self.clients.items)
