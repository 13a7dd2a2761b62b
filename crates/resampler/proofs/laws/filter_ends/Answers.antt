use Rattle.resampler.proofs.FilterLemmas.{ends}
use Rattle.resampler.proofs.laws.filter_ends.Goals as goal

pub returns : goal.returns
returns c = ends
