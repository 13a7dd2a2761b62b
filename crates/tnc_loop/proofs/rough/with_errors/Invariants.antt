-- The samples so far.
use Rattle.tnc_loop.proofs.RoughLemmas.{HasErrors}
use Rattle.tnc_loop.proofs.rough.with_errors.Given as goal

abbrev pub invariant-loop-sample : goal.invariant-loop-sample
invariant-loop-sample l = HasErrors l.level l.exact l.fn.generator l.generator l.sample-index l.samples.items
