-- The frames so far have joined.
use Rattle.channel_bench.proofs.Common.{◌≡◌, take, first_unquiet, StandsForWays, BothWays, queueing_all}
use Rattle.channel_bench.proofs.flight.Flight.queue_all.Given as goal

abbrev pub invariant-loop-frame : goal.invariant-loop-frame
invariant-loop-frame l = record {
  queued : (ways : BothWays) → StandsForWays l.fn.self ways
      → StandsForWays l.self (queueing_all l.sender l.on_ask (take l.frame-index l.frames) ways);
  first : (ways : BothWays) → StandsForWays l.fn.self ways
      → l.first ≡ first_unquiet l.sender l.on_ask (take l.frame-index l.frames) ways;
}
