use Rattle.resampler.proofs.Common.{◌∙◌, sym}
use Rattle.resampler.proofs.FilterLemmas.{ends}
use Rattle.resampler.proofs.low_pass.LowPass.finish.Goals as goal

pub returns-clause-rest : goal.returns-clause-rest
returns-clause-rest c = λ x h. sym (ends x) ∙ c.feed.ensures.settled x h
