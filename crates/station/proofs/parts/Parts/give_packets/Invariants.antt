use Rattle.station.proofs.Common.{◌≡◌, giving_packets, ids_in, Shows, Turn}
use Rattle.station.proofs.GiveLemmas.{first_packets}
use Rattle.station.proofs.parts.Parts.give_packets.Given as goal

-- the packets so far are given
abbrev pub invariant-loop-place : goal.invariant-loop-place
invariant-loop-place l = record {
  shows : (turn : Turn) → Shows l.fn.self l.fn.out turn
      → Shows l.self l.out (giving_packets l.key (first_packets l.len l.pid l.octets l.place) turn);
  ids : ids_in l.self ≡ ids_in l.fn.self;
  closed : l.out.closed ≡ l.fn.out.closed;
}
