-- None so far.
use Rattle.host_ports.proofs.Common.{◌≡◌, take, is_among}
use Rattle.std.proofs.Common.{false}
use Rattle.host_ports.proofs.clients.is_among.Given as goal

abbrev pub invariant-loop-other : goal.invariant-loop-other
invariant-loop-other l = is_among l.id (take l.other-index l.ids) ≡ false
