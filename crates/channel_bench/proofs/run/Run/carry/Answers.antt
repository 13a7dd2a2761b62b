-- The losses, the noise and the samples, one after another.
use Rattle.channel_bench.proofs.Common.{subst, ap, ◌∙◌, arith, BenchState, AreReady, heard_by, StandsForRun}
use Rattle.channel_bench.proofs.Common.{with_noise_drawn, with_losses}
use Rattle.channel_bench.proofs.EarLemmas.{ear_count}
use Rattle.channel_bench.proofs.TakeLemmas.{sounded_is}
use Rattle.channel_bench.proofs.run.Run.carry.Goals as goal

pub draw_losses-requires : goal.draw_losses-requires
draw_losses-requires c =
    let need = c.requires.stands in
    let held = need.2 in
    let counted = need.4 in (
      omega (arith, counted.transmissions, held.shared.transmissions, held.ticks, c.requires.few),
      omega (arith, counted.transmissions, counted.lost, held.shared.lost, held.ticks, c.requires.few),
    )

pub take_in-requires-clause-ears : goal.take_in-requires-clause-ears
take_in-requires-clause-ears c =
    let need = c.requires.stands in
    let held = need.2 in
    let counted = need.4 in
    let at_a = ap heard_by (c.in_ok-both.ensures.ears.0 ∙ c.draw_losses.ensures.ears.0) in
    let at_b = ap heard_by (c.in_ok-both.ensures.ears.1 ∙ c.draw_losses.ensures.ears.1) in
    let of_a = ear_count _ need.1.a.blocks need.1.a.samples held.a.ear in
    let of_b = ear_count _ need.1.b.blocks need.1.b.samples held.b.ear in (
      omega (arith, at_a, of_a, counted.a, held.ticks, c.requires.few),
      omega (arith, at_b, of_b, counted.b, held.ticks, c.requires.few),
    )

pub add_noise-requires : goal.add_noise-requires
add_noise-requires c =
    let need = c.requires.stands in
    let lost = c.draw_losses.ensures.lost need.0 need.1 need.2 in
    (need.0, with_losses need.0.loss need.1, lost, need.3)

pub take_in-requires-clause-stands : goal.take_in-requires-clause-stands
take_in-requires-clause-stands c =
    let need = c.requires.stands in
    let after : BenchState = with_losses need.0.loss need.1 in
    let lost = c.draw_losses.ensures.lost need.0 need.1 need.2 in
    (need.0, with_noise_drawn need.0 after, c.in_ok-both.ensures.drawn need.0 after lost)

pub returns-clause-carried : goal.returns-clause-carried
returns-clause-carried c = λ w bench h.
    let both = c.in_ok-both.both in
    let after : BenchState = with_losses w.loss bench in
    let lost = c.draw_losses.ensures.lost w bench h in
    let samples = c.in_ok-both.ensures.samples w after lost in
    subst (λ b. StandsForRun c.take_in.new.self w b)
    (sounded_is w bench both.to_a.items both.to_b.items samples.0 samples.1)
    (c.in_ok-ready.ensures.taken w (with_noise_drawn w after) (c.in_ok-both.ensures.drawn w after lost))

pub returns-clause-ready : goal.returns-clause-ready
returns-clause-ready c = λ w bench h.
    let both = c.in_ok-both.both in
    let after : BenchState = with_losses w.loss bench in
    let lost = c.draw_losses.ensures.lost w bench h in
    let samples = c.in_ok-both.ensures.samples w after lost in
    let same = sounded_is w bench both.to_a.items both.to_b.items samples.0 samples.1 in
    let ready = c.in_ok-ready.ensures.ready w (with_noise_drawn w after) (c.in_ok-both.ensures.drawn w after lost) in (
      subst (λ (b : BenchState). AreReady b.a.blocks b.a.samples c.in_ok-ready.ready.at_a.items) same ready.0,
      subst (λ (b : BenchState). AreReady b.b.blocks b.b.samples c.in_ok-ready.ready.at_b.items) same ready.1,
    )
