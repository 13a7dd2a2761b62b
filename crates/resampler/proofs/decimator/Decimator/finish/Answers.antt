use Rattle.resampler.proofs.Common.{◌∙◌, sym}
use Rattle.resampler.proofs.FilterLemmas.{decimated_ends}
use Rattle.resampler.proofs.decimator.Decimator.finish.Goals as goal

pub returns-clause-rest : goal.returns-clause-rest
returns-clause-rest c = λ x h. sym (decimated_ends x) ∙ c.feed.ensures.settled x h
