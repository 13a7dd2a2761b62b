use Rattle.resampler.proofs.ConstantLemmas.{constant}
use Rattle.resampler.proofs.laws.constant_level.Goals as goal

pub returns : goal.returns
returns c = constant
