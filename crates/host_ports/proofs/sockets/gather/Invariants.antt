-- What came so far may come, nobody joins, and no id changes.
use Rattle.host_ports.proofs.Common.{◌≡◌, ids_of_sockets, joined_ids, MayCome}
use Rattle.std.proofs.Common.{All}
use Rattle.host_ports.proofs.sockets.gather.Given as goal

abbrev pub invariant-loop-at : goal.invariant-loop-at
invariant-loop-at l = record {
  kept : All (MayCome l.paused) l.initial.events.items → All (MayCome l.paused) l.events.items;
  joined : joined_ids l.events.items ≡ joined_ids l.initial.events.items;
  same : ids_of_sockets l.sockets.items ≡ ids_of_sockets l.initial.sockets.items;
}
