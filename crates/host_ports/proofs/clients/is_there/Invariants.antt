-- None so far.
use Rattle.host_ports.proofs.Common.{◌≡◌, take, list_any, is_client_of}
use Rattle.std.proofs.Common.{false}
use Rattle.host_ports.proofs.clients.is_there.Given as goal

abbrev pub invariant-loop-client : goal.invariant-loop-client
invariant-loop-client l = list_any (is_client_of l.id) (take l.client-index l.clients) ≡ false
