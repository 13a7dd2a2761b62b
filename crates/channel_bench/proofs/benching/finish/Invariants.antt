-- The run is under way.
use Rattle.channel_bench.proofs.Common.{IsGoing}
use Rattle.channel_bench.proofs.benching.finish.Given as goal

abbrev pub invariant-loop : goal.invariant-loop
invariant-loop l = IsGoing l.fn.words l.counter l.run
