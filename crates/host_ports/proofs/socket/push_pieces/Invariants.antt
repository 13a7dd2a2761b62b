-- What came so far may come, and nobody joins.
use Rattle.host_ports.proofs.Common.{◌≡◌, ◌≢◌, ℕ, List, joined_ids, MayCome}
use Rattle.std.proofs.Common.{All}
use Rattle.host_ports.proofs.socket.push_pieces.Given as goal

abbrev pub invariant-loop-at : goal.invariant-loop-at
invariant-loop-at l = record {
  kept : (paused : List ℕ) → All (MayCome paused) l.initial.events.items → All (λ other. other ≢ l.id) paused
      → All (MayCome paused) l.events.items;
  joined : joined_ids l.events.items ≡ joined_ids l.initial.events.items;
}
