use Rattle.resampler.proofs.FilterLemmas.{decimated_settles}
use Rattle.resampler.proofs.laws.decimator_settles.Goals as goal

pub returns : goal.returns
returns c = decimated_settles
