use Rattle.tone_tracking.proofs.Common.{arith}
use Rattle.tone_tracking.proofs.MeanLemmas.{no_sum}
use Rattle.tone_tracking.proofs.mean_remover.MeanRemover.new.Goals as goal

pub invariant_of-result : goal.invariant_of-result
invariant_of-result c = (omega arith, no_sum)
