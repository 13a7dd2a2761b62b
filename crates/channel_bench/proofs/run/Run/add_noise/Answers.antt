-- The noise of the samples towards B is drawn before that of those towards A.
use Rattle.channel_bench.proofs.Common.{◌≡◌, ◌≤◌, ◌∙◌, refl, sym, subst, rules, length, All, A, B}
use Rattle.channel_bench.proofs.Loudness.{IsLoudAtMost}
use Rattle.channel_bench.proofs.SoundLemmas.{reaching_within}
use Rattle.channel_bench.proofs.TakeLemmas.{noise_drawn, noisy_a, noisy_b}
use Rattle.station.proofs.MemoryLemmas.{if_took, on_took}
use Rattle.channel_bench.proofs.run.Run.add_noise.Goals as goal

pub with_noise-requires-clause-noise : goal.with_noise-requires-clause-noise
with_noise-requires-clause-noise c = subst (λ v. v.noise ≤ 2000) (sym c.requires.2.words) c.requires.3.noise

pub with_noise-requires-clause-loud : goal.with_noise-requires-clause-loud
with_noise-requires-clause-loud c =
    let bench = c.requires.1 in
    let h = c.requires.2 in
    subst (All IsLoudAtMost) (sym (c.reaching-to_b.ensures A B bench.a bench.b h.a h.b))
    (reaching_within c.args.self.now.words.full bench.a bench.b h.a.loud)

pub with_noise-requires-2-clause-noise : goal.with_noise-requires-2-clause-noise
with_noise-requires-2-clause-noise c = subst (λ v. v.noise ≤ 2000) (sym c.requires.2.words) c.requires.3.noise

pub with_noise-requires-2-clause-loud : goal.with_noise-requires-2-clause-loud
with_noise-requires-2-clause-loud c =
    let bench = c.requires.1 in
    let h = c.requires.2 in
    subst (All IsLoudAtMost) (sym (c.reaching-to_a.ensures B A bench.b bench.a h.b h.a))
    (reaching_within c.args.self.now.words.full bench.b bench.a h.b.loud)

pub returns-clause-drawn : goal.returns-clause-drawn
returns-clause-drawn c = λ w bench h.
    noise_drawn c.args.self.now w bench c.reaching-to_a.result c.reaching-to_b.result c.with_noise.new.draws h
    (c.reaching-to_b.ensures A B bench.a bench.b h.a h.b) (c.reaching-to_a.ensures B A bench.b bench.a h.b h.a)
    (on_took _ c.with_noise.result c.in_ok-noisy_b.noisy_b c.in_ok-noisy_b.ensures.value c.with_noise.ensures.draws) _
    (record {
      words = refl;
      a = refl;
      b = refl;
      shared = record { flight = refl; transmissions = refl; lost = refl; trouble = refl };
      text_of_a = refl;
      text_of_b = refl;
      ticks = refl;
      closing = refl;
    })
    (on_took _ c.with_noise-2.result c.in_ok-noisy_a.noisy_a c.in_ok-noisy_a.ensures.value c.with_noise-2.ensures.draws)

pub returns-clause-samples : goal.returns-clause-samples
returns-clause-samples c = λ w bench h.
    let is_b = c.reaching-to_b.ensures A B bench.a bench.b h.a h.b in
    let is_a = c.reaching-to_a.ensures B A bench.b bench.a h.b h.a in (
      noisy_a c.args.self.now w bench c.reaching-to_a.result c.reaching-to_b.result c.with_noise.new.draws h is_b is_a
          (on_took _ c.with_noise.result c.in_ok-noisy_b.noisy_b c.in_ok-noisy_b.ensures.value c.with_noise.ensures.draws)
          c.in_ok-noisy_a.noisy_a.items
          (if_took _ c.with_noise-2.result c.in_ok-noisy_a.noisy_a c.in_ok-noisy_a.ensures.value c.with_noise-2.ensures.samples),
      noisy_b c.args.self.now w bench c.reaching-to_a.result c.reaching-to_b.result c.with_noise.new.draws h is_b is_a
          (on_took _ c.with_noise.result c.in_ok-noisy_b.noisy_b c.in_ok-noisy_b.ensures.value c.with_noise.ensures.draws)
          c.in_ok-noisy_b.noisy_b.items
          (if_took _ c.with_noise.result c.in_ok-noisy_b.noisy_b c.in_ok-noisy_b.ensures.value c.with_noise.ensures.samples),
    )

pub returns-clause-lengths : goal.returns-clause-lengths
returns-clause-lengths c =
    let to_a : length c.reaching-to_a.result ≡ 96 = search rules in
    let to_b : length c.reaching-to_b.result ≡ 96 = search rules in (
      if_took _ c.with_noise-2.result c.in_ok-noisy_a.noisy_a c.in_ok-noisy_a.ensures.value c.with_noise-2.ensures.length ∙ to_a,
      if_took _ c.with_noise.result c.in_ok-noisy_b.noisy_b c.in_ok-noisy_b.ensures.value c.with_noise.ensures.length
          ∙ to_b,
    )
