-- Those that joined so far.
use Rattle.host_ports.proofs.Common.{◌≡◌, ◌++◌, take, joined_in}
use Rattle.host_ports.proofs.script.came_with.Given as goal

abbrev pub invariant-loop-event : goal.invariant-loop-event
invariant-loop-event l = l.all.items ≡ l.fn.came ++ joined_in (take l.event-index l.events)
