use Rattle.tnc_loop.proofs.Common.{◌++◌, ap, ◌∙◌, drawn_as}
use Rattle.tnc_loop.proofs.RoughLemmas.{rough_is, after_rough_is}
use Rattle.tnc_loop.proofs.rough.rough_samples.Goals as goal

pub returns-clause-samples : goal.returns-clause-samples
returns-clause-samples c =
    c.in_ok-extend_from_slice.ensures.items
    ∙ ap (λ xs. c.in_ok-samples.samples.items ++ xs) c.deref-2.ensures.value
    ∙ rough_is (drawn_as c.args.drawn.now) c.args.generator.now c.draw_phase-phase.new.generator
    c.draw_level-level.new.generator c.draw_noise.new.generator
    c.draw_phase-phase.result c.draw_level-level.result c.deref.result.now c.draw_phase-phase.ensures.following
    c.draw_level-level.ensures.following
    c.in_ok-samples.ensures.following c.draw_phase-phase.ensures.value c.draw_level-level.ensures.value
    (c.deref.ensures.value ∙ c.in_ok-exact.ensures.samples)
    c.in_ok-samples.samples.items c.in_ok-with_errors.field-0.items c.in_ok-samples.ensures.samples
    c.in_ok-with_errors.ensures.samples

pub returns-clause-following : goal.returns-clause-following
returns-clause-following c =
    after_rough_is (drawn_as c.args.drawn.now) c.args.generator.now c.draw_phase-phase.new.generator
    c.draw_level-level.new.generator c.draw_noise.new.generator
    c.draw_phase-phase.result c.draw_level-level.result c.deref.result.now c.draw_phase-phase.ensures.following
    c.draw_level-level.ensures.following
    c.in_ok-samples.ensures.following c.draw_phase-phase.ensures.value c.draw_level-level.ensures.value
    (c.deref.ensures.value ∙ c.in_ok-exact.ensures.samples)
    c.with_errors.new.generator c.in_ok-with_errors.ensures.following
