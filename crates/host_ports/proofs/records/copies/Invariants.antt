-- Copies of the events so far.
use Rattle.host_ports.proofs.Common.{◌≡◌, take}
use Rattle.host_ports.proofs.records.copies.Given as goal

abbrev pub invariant-loop-event : goal.invariant-loop-event
invariant-loop-event l = l.same.items ≡ take l.event-index l.events
