use Rattle.station.proofs.Common.{◌≡◌, map, range_with_len, ids_in, giving_up, Shows, Turn, in_order}
use Rattle.station.proofs.parts.Parts.give_up_all.Given as goal

-- the links below the key are given up
abbrev pub invariant-loop-key : goal.invariant-loop-key
invariant-loop-key l = record {
  shows : (turn : Turn) → Shows l.fn.self l.fn.out turn
      → Shows l.self l.out (in_order (map (giving_up l.id) (range_with_len 0 l.key)) turn);
  ids : ids_in l.self ≡ ids_in l.fn.self;
  closed : l.out.closed ≡ l.fn.out.closed;
}
