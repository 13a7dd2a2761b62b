use Rattle.resampler.proofs.Common.{rules, ◌≡◌, ◌≤◌, ◌-◌, ◌∙◌, ◌∷◌, ◌++◌, [], length, ap, arith, to_z, of_z, FitsSigned}
use Rattle.resampler.proofs.Common.{w16, taps, sum_below, product_of, sample_of_sum, last_window, HeldFilter, to_z-of_z}
use Rattle.std.proofs.Common.{w32}
use Rattle.resampler.proofs.FilterLemmas.{settled-more, given_is}
use Rattle.resampler.proofs.low_pass.LowPass.push.Goals as goal

pub returns-clause-settled : goal.returns-clause-settled
returns-clause-settled c = λ x h.
    let left : c.self.inside.left ≡ 15 - length x = ap (λ (held : HeldFilter). held.left) c.self.view_is ∙ h.left in
    let none : c.self.inside.left ≤ 0 = c.if-self-gt0.false in
    let moved : c.push.new.self ≡ last_window (x ++ c.args.sample ∷ []) =
    c.push.ensures x (ap (λ (held : HeldFilter). held.window) c.self.view_is ∙ h.window)
    ∙ ap (λ z. last_window (x ++ z ∷ [])) (to_z-of_z w16 c.args.sample c.ranges.sample) in
    let sum_fits : FitsSigned w32 c.sum.result = search rules in
    let fits : FitsSigned w16 c.sample_of_sum.result = search rules in
    settled-more x c.args.sample (to_z w16 (of_z w16 c.sample_of_sum.result)) (omega arith)
    (given_is c.sum.result c.sample_of_sum.result sum_fits fits c.sample_of_sum.ensures
    ∙ ap sample_of_sum (c.sum.ensures.sum ∙ ap (λ w. sum_below (product_of w taps) 31) moved))
