-- None so far.
use Rattle.host_ports.proofs.Common.{◌≡◌, take, is_within}
use Rattle.std.proofs.Common.{false}
use Rattle.host_ports.proofs.id_range.is_within.Given as goal

abbrev pub invariant-loop-range : goal.invariant-loop-range
invariant-loop-range l = is_within l.id (take l.range-index l.ranges) ≡ false
