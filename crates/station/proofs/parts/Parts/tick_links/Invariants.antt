use Rattle.station.proofs.Common.{◌≡◌, map, range_with_len, ids_in, Shows, ticking_at, Turn, in_order}
use Rattle.station.proofs.parts.Parts.tick_links.Given as goal

-- the links below the key have ticked
abbrev pub invariant-loop-key : goal.invariant-loop-key
invariant-loop-key l = record {
  shows : (turn : Turn) → Shows l.fn.self l.fn.out turn
      → Shows l.self l.out (in_order (map (ticking_at l.fn.busy) (range_with_len 0 l.key)) turn);
  ids : ids_in l.self ≡ ids_in l.fn.self;
}
