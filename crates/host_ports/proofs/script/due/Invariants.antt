-- What the script so far has for the poll.
use Rattle.host_ports.proofs.Common.{◌≡◌, ◌++◌, take, scripted_for}
use Rattle.host_ports.proofs.script.due.Given as goal

abbrev pub invariant-loop-entry : goal.invariant-loop-entry
invariant-loop-entry l = l.all.items ≡ l.fn.waiting ++ scripted_for l.number (take l.entry-index l.script)
