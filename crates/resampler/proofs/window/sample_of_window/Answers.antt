use Rattle.resampler.proofs.Common.{rules, ◌∙◌, ap, FitsSigned, w16, sample_of_sum}
use Rattle.std.proofs.Common.{w32}
use Rattle.resampler.proofs.FilterLemmas.{given_is}
use Rattle.resampler.proofs.window.sample_of_window.Goals as goal

pub returns : goal.returns
returns c =
    let sum_fits : FitsSigned w32 c.sum_of_products.result = search rules in
    let fits : FitsSigned w16 c.sample_of_sum.result = search rules in
    given_is c.sum_of_products.result c.sample_of_sum.result sum_fits fits c.sample_of_sum.ensures
    ∙ ap sample_of_sum c.sum_of_products.ensures.sum
