use Rattle.station.proofs.Common.{take, spelling, monitor_message, to_monitors, Shows, Turn}
use Rattle.station.proofs.MonitorLemmas.{with_pieces}
use Rattle.station.proofs.parts.Parts.show_frame.Given as goal

-- the connections so far that monitor are shown the frame
abbrev pub invariant-loop-connection : goal.invariant-loop-connection
invariant-loop-connection l = (turn : Turn) → Shows l.self l.fn.out turn
    → Shows l.self l.out (with_pieces (to_monitors (spelling (monitor_message l.sent l.self.ticks l.frame))
    (take l.connection-index turn.now.connections)) turn)
