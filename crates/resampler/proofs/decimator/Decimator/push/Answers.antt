use Rattle.resampler.proofs.Common.{rules, ◌≡◌, ◌≤◌, ◌+◌, ◌-◌, ◌*◌, ◌/◌, ◌∙◌, ◌∷◌, ◌++◌, [], length, ap, arith, to_z, of_z}
use Rattle.resampler.proofs.Common.{FitsSigned, w16, taps, sum_below, product_of, sample_of_sum, last_window, HeldFilter, to_z-of_z}
use Rattle.resampler.proofs.Common.{length_push}
use Rattle.std.proofs.Common.{w32}
use Rattle.resampler.proofs.FilterLemmas.{decimated-more, decimated-none, given_is}
use Rattle.resampler.proofs.decimator.Decimator.push.Goals as goal

pub returns-then-self-gt0-clause-settled : goal.returns-then-self-gt0-clause-settled
returns-then-self-gt0-clause-settled c = λ x h.
    let left = ap (λ (held : HeldFilter). held.left) c.self.view_is in
    decimated-none x c.args.sample c.args.self.now.left h.left (let some = c.if-self-gt0.true in omega arith)

pub returns-clause-settled : goal.returns-clause-settled
returns-clause-settled c = λ x h.
    let left : c.self.inside.left ≡ c.args.self.now.left = ap (λ (held : HeldFilter). held.left) c.self.view_is in
    let at = h.left in
    let none : c.self.inside.left ≤ 0 = c.if-self-gt0.false in
    let moved : c.push.new.self ≡ last_window (x ++ c.args.sample ∷ []) =
    c.push.ensures x (ap (λ (held : HeldFilter). held.window) c.self.view_is ∙ h.window)
    ∙ ap (λ z. last_window (x ++ z ∷ [])) (to_z-of_z w16 c.args.sample c.ranges.sample) in
    let sum_fits : FitsSigned w32 c.sum.result = search rules in
    let fits : FitsSigned w16 c.sample_of_sum.result = search rules in
    decimated-more x c.args.sample (to_z w16 (of_z w16 c.sample_of_sum.result)) (omega arith)
    (given_is c.sum.result c.sample_of_sum.result sum_fits fits c.sample_of_sum.ensures
    ∙ ap sample_of_sum (c.sum.ensures.sum ∙ ap (λ w. sum_below (product_of w taps) 31) moved))
