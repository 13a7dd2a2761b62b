use Rattle.resampler.proofs.FilterLemmas.{decimated_ends}
use Rattle.resampler.proofs.laws.decimator_ends.Goals as goal

pub returns : goal.returns
returns c = decimated_ends
