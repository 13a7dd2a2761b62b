use Rattle.station.proofs.Common.{◌≡◌, take, Shows, Turn}
use Rattle.station.specs.AgwRequests.{replying_heard}
use Rattle.station.proofs.parts.Parts.reply_heard.Given as goal

-- the connection is sent a message of each station so far
abbrev pub invariant-loop-station : goal.invariant-loop-station
invariant-loop-station l = record {
  sent : (turn : Turn) → Shows l.self l.fn.out turn
      → Shows l.self l.out (replying_heard l.id (take l.station-index turn.now.heard) turn);
  closed : l.out.closed ≡ l.fn.out.closed;
}
