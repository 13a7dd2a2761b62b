-- None so far.
use Rattle.host_ports.proofs.Common.{◌≡◌, take, list_any, is_octets_of}
use Rattle.std.proofs.Common.{false}
use Rattle.host_ports.proofs.script.has_octets_of.Given as goal

abbrev pub invariant-loop-event : goal.invariant-loop-event
invariant-loop-event l = list_any (is_octets_of l.id) (take l.event-index l.events) ≡ false
