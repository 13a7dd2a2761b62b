use Rattle.station.proofs.Common.{map, take, showing_to, Shows, Turn, in_order}
use Rattle.station.proofs.parts.Parts.show.Given as goal

-- the connections so far are shown the frame
abbrev pub invariant-loop-connection : goal.invariant-loop-connection
invariant-loop-connection l = (turn : Turn) → Shows l.self l.fn.out turn
    → Shows l.self l.out (in_order (map (showing_to l.from l.to l.octets)
    (take l.connection-index turn.now.connections)) turn)
