use Rattle.resampler.proofs.FilterLemmas.{decimated_place}
use Rattle.resampler.proofs.laws.decimated_samples.Goals as goal

pub returns : goal.returns
returns c = decimated_place
