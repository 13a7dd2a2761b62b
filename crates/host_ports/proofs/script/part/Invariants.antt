-- The events so far are parted.
use Rattle.host_ports.proofs.Common.{◌≡◌, [], take, waiting_of, given_of}
use Rattle.host_ports.proofs.script.part.Given as goal

abbrev pub invariant-loop-at : goal.invariant-loop-at
invariant-loop-at l = record {
  given : l.parted.given.items ≡ given_of l.paused [] (take l.at l.due);
  waiting : l.parted.waiting.items ≡ waiting_of l.paused [] (take l.at l.due);
}
