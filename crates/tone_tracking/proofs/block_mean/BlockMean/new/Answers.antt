use Rattle.tone_tracking.proofs.MeanLemmas.{no_sum}
use Rattle.tone_tracking.proofs.block_mean.BlockMean.new.Goals as goal

pub invariant_of-result : goal.invariant_of-result
invariant_of-result c = no_sum
