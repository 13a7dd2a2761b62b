use Rattle.tnc_loop.proofs.Common.{◌<◌, ◌≤◌, ◌++◌, ◌∷◌, [], ℤ, pos, length, get_or, unsigned_abs, refl, ap, ◌∙◌, rules}
use Rattle.tnc_loop.proofs.Common.{arith, ints}
use Rattle.tnc_loop.proofs.RoughLemmas.{errors_none, errors_more, errors_all}
use Rattle.tnc_loop.proofs.rough.with_errors.Goals as goal

pub loop-sample-init : goal.loop-sample-init
loop-sample-init c = errors_none c.args.level c.args.exact.now c.args.generator.now c.new-samples.result.items
    c.new-samples.ensures.items

pub loop-sample-preserved : goal.loop-sample-preserved
loop-sample-preserved c =
    let exact = c.args.exact.now in
    let place = c.loop-sample.sample-index in
    let sample : ℤ = get_or exact place (pos 0) in
    let below : place < length exact = search rules in
    let small : unsigned_abs sample ≤ c.args.level = c.requires.samples place (pos 0) below in
    errors_more c.args.level exact c.args.generator.now c.loop-sample.generator c.draw_error.new.generator place sample
    c.draw_error.result
    c.loop-sample.samples.items c.push.new.self.items c.loop-sample.invariant below refl c.draw_error.ensures.value
    c.draw_error.ensures.following
    (c.in_ok-push.ensures.items ∙ ap (λ z. c.loop-sample.samples.items ++ z ∷ [])
    (omega (arith, ints, small, c.draw_error.ensures.bound, c.requires.bound)))

pub returns-clause-samples : goal.returns-clause-samples
returns-clause-samples c =
    (errors_all c.args.level c.args.exact.now c.args.generator.now c.loop-sample.generator c.loop-sample.sample-index
    c.loop-sample.samples.items c.loop-sample.invariant c.loop-sample-test.false).0

pub returns-clause-following : goal.returns-clause-following
returns-clause-following c =
    (errors_all c.args.level c.args.exact.now c.args.generator.now c.loop-sample.generator c.loop-sample.sample-index
    c.loop-sample.samples.items c.loop-sample.invariant c.loop-sample-test.false).1
