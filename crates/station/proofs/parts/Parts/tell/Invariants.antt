use Rattle.station.proofs.Common.{◌≡◌, take, telling_to, Shows, Turn}
use Rattle.station.proofs.parts.Parts.tell.Given as goal

-- the items so far are told
abbrev pub invariant-loop-item : goal.invariant-loop-item
invariant-loop-item l = record {
  shows : (turn : Turn) → Shows l.self l.fn.out turn
      → Shows l.self l.out (telling_to l.owner l.local l.remote (take l.item-index l.told) turn);
  closed : l.out.closed ≡ l.fn.out.closed;
}
