-- The pieces so far are appended.
use Rattle.host_ports.proofs.Common.{take, Moves, Narrows, appending}
use Rattle.host_ports.proofs.host_parts.HostParts.append_all.Given as goal

abbrev pub invariant-loop-piece : goal.invariant-loop-piece
invariant-loop-piece l = record {
  moves : Moves (appending l.closed (take l.piece-index l.pieces)) l.initial.self l.self;
  narrows : Narrows l.initial.self l.self;
}
