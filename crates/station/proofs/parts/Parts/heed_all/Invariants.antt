use Rattle.station.proofs.Common.{◌≡◌, take, ids_in, heeding_all, Shows, Turn}
use Rattle.station.proofs.parts.Parts.heed_all.Given as goal

-- the items so far are heeded
abbrev pub invariant-loop-item : goal.invariant-loop-item
invariant-loop-item l = record {
  shows : (turn : Turn) → Shows l.fn.self l.fn.out turn
      → Shows l.self l.out (heeding_all l.id (take l.item-index l.items) turn);
  ids : ids_in l.self ≡ ids_in l.fn.self;
  closed : l.out.closed ≡ l.fn.out.closed;
}
