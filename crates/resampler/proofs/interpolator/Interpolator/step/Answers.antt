use Rattle.resampler.proofs.Common.{rules, ◌≡◌, ◌*ℤ◌, ◌∙◌, ◌∷◌, ◌++◌, [], ℤ, pos, ap, to_z, of_z, FitsSigned, w16}
use Rattle.resampler.proofs.Common.{taps, sum_below, product_of, sample_of_sum, last_window, to_z-of_z}
use Rattle.std.proofs.Common.{w32}
use Rattle.resampler.proofs.FilterLemmas.{given_is}
use Rattle.resampler.proofs.StuffedLemmas.{at_window}
use Rattle.resampler.proofs.interpolator.Interpolator.step.Goals as goal

pub returns-clause-given : goal.returns-clause-given
returns-clause-given c = λ x is.
    let moved : c.push.new.self ≡ last_window (x ++ c.args.sample ∷ []) =
    c.push.ensures x (c.self.view_is ∙ is)
    ∙ ap (λ z. last_window (x ++ z ∷ [])) (to_z-of_z w16 c.args.sample c.ranges.sample) in
    let given : FitsSigned w16 c.sample_of_sum.result = search rules in
    let scaled : FitsSigned w32 c.fivefold.result = search rules in
    let sum : FitsSigned w32 c.sum.result = search rules in
    given_is c.fivefold.result c.sample_of_sum.result scaled given c.sample_of_sum.ensures
    ∙ ap sample_of_sum (c.fivefold.ensures ∙ ap (λ z. pos 5 *ℤ z) (to_z-of_z w32 c.sum.result sum ∙ c.sum.ensures.sum
    ∙ ap (λ w. sum_below (product_of w taps) 31) moved))
    ∙ at_window x c.args.sample
