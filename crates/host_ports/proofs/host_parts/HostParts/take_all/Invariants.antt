-- Those so far were taken.
use Rattle.host_ports.proofs.Common.{◌≡◌, ◌++◌, MovesBy, IsAtRest, InOrder, IsTaken, IsWholePiece}
use Rattle.std.proofs.Common.{All}
use Rattle.host_ports.proofs.host_parts.HostParts.take_all.Given as goal

abbrev pub invariant-loop-event : goal.invariant-loop-event
invariant-loop-event l = record {
  moves : MovesBy (InOrder IsTaken l.yielded) l.initial.self l.self;
  rest : IsAtRest l.self;
  parts : l.initial.event-iterator.rest.items ≡ l.yielded ++ l.event-iterator.rest.items;
  pieces : All IsWholePiece l.event-iterator.rest.items;
}
