use Rattle.station.proofs.Common.{◌≡◌, take, ids_in, queueing_frames, Shows, Turn}
use Rattle.station.proofs.parts.Parts.queue_frames.Given as goal

-- the frames so far are queued
abbrev pub invariant-loop-sent : goal.invariant-loop-sent
invariant-loop-sent l = record {
  shows : (turn : Turn) → Shows l.fn.self l.fn.out turn
      → Shows l.self l.out (queueing_frames l.key (take l.sent-index l.frames) turn);
  ids : ids_in l.self ≡ ids_in l.fn.self;
  closed : l.out.closed ≡ l.fn.out.closed;
}
