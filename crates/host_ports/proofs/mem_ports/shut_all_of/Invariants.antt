-- Those so far are shut.
use Rattle.host_ports.proofs.Common.{◌≡◌, ◌++◌, take, drop, with_shut}
use Rattle.host_ports.proofs.mem_ports.shut_all_of.Given as goal

abbrev pub invariant-loop-at : goal.invariant-loop-at
invariant-loop-at l = l.came.items ≡ with_shut l.id (take l.at l.initial.came.items) ++ drop l.at l.initial.came.items
