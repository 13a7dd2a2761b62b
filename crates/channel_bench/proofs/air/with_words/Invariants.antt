-- The samples so far.
use Rattle.channel_bench.proofs.WordLemmas.{HasNoise}
use Rattle.channel_bench.proofs.air.with_words.Given as goal

abbrev pub invariant-loop-sample : goal.invariant-loop-sample
invariant-loop-sample l = HasNoise l.noise l.samples l.fn.draws l.draws l.sample-index l.heard.items
