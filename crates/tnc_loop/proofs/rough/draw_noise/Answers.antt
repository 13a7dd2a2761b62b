use Rattle.tnc_loop.proofs.Common.{ap, ◌++◌, ◌∷◌, [], ◌∙◌, rules, pcg32, word_at, noise_of}
use Rattle.std.proofs.Common.{FitsSigned}
use Rattle.std.proofs.lemmas.Int.{to_z-of_z}
use mir.Syntax.{w16}
use Rattle.tnc_loop.proofs.DrawingLemmas.{has_drawn_more}
use Rattle.tnc_loop.proofs.rough.draw_noise.Goals as goal

pub loop-preserved : goal.loop-preserved
loop-preserved c =
    let fits : FitsSigned w16 c.draw_noise_sample.result = search rules in
    has_drawn_more noise_of c.args.generator.now c.loop.generator c.draw_noise_sample.new.generator c.args.count
    c.loop.counter (word_at 0 c.loop.generator)
    c.loop.samples.items c.push.new.self.items c.loop.invariant (search rules)
    (ap (λ g. ((pcg32 c.loop.generator).0, g)) c.draw_noise_sample.ensures.following)
    (c.in_ok-push.ensures.items ∙ ap (λ z. c.loop.samples.items ++ z ∷ [])
    (to_z-of_z w16 c.draw_noise_sample.result fits ∙ c.draw_noise_sample.ensures.value))
