use Rattle.resampler.proofs.FilterLemmas.{settles}
use Rattle.resampler.proofs.laws.filter_settles.Goals as goal

pub returns : goal.returns
returns c = settles
