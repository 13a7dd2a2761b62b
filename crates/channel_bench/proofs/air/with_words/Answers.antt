use Rattle.channel_bench.proofs.Common.{◌<◌, ◌≤◌, ◌++◌, ◌∷◌, [], ℤ, pos, length, get_or, unsigned_abs, refl, ap, ◌∙◌}
use Rattle.channel_bench.proofs.Common.{rules, arith}
use Rattle.std.proofs.lemmas.Int.{ints}
use Rattle.channel_bench.proofs.WordLemmas.{length-with_words, noise_none, noise_more, noise_all}
use Rattle.channel_bench.proofs.air.with_words.Goals as goal

pub loop-sample-init : goal.loop-sample-init
loop-sample-init c = noise_none c.args.noise c.args.samples.now c.args.draws.now c.new-heard.result.items
    c.new-heard.ensures.items

pub loop-sample-preserved : goal.loop-sample-preserved
loop-sample-preserved c =
    let exact = c.args.samples.now in
    let place = c.loop-sample.sample-index in
    let sample : ℤ = get_or exact place (pos 0) in
    let below : place < length exact = search rules in
    let small : unsigned_abs sample ≤ 10000 = c.requires.loud place (pos 0) below in
    noise_more c.args.noise exact c.args.draws.now c.loop-sample.draws c.draw_noise.new.draws place sample
    c.draw_noise.result
    c.loop-sample.heard.items c.push.new.self.items c.loop-sample.invariant below refl c.draw_noise.ensures.value
    c.draw_noise.ensures.draws
    (c.in_ok-push.ensures.items ∙ ap (λ z. c.loop-sample.heard.items ++ z ∷ [])
    (omega (arith, ints, small, c.draw_noise.ensures.bound, c.requires.noise)))

pub returns-clause-samples : goal.returns-clause-samples
returns-clause-samples c =
    (noise_all c.args.noise c.args.samples.now c.args.draws.now c.loop-sample.draws c.loop-sample.sample-index
    c.loop-sample.heard.items c.loop-sample.invariant c.loop-sample-test.false).0

pub returns-clause-length : goal.returns-clause-length
returns-clause-length c =
    ap length (returns-clause-samples c) ∙ length-with_words c.args.noise c.args.samples.now c.args.draws.now

pub returns-clause-draws : goal.returns-clause-draws
returns-clause-draws c =
    (noise_all c.args.noise c.args.samples.now c.args.draws.now c.loop-sample.draws c.loop-sample.sample-index
    c.loop-sample.heard.items c.loop-sample.invariant c.loop-sample-test.false).1
