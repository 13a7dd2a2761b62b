-- None so far.
use Rattle.host_ports.proofs.Common.{◌≡◌, take, list_any, is_from}
use Rattle.std.proofs.Common.{false}
use Rattle.host_ports.proofs.pausing.has_untaken.Given as goal

abbrev pub invariant-loop-one : goal.invariant-loop-one
invariant-loop-one l = list_any (is_from l.id) (take l.one-index l.untaken) ≡ false
