-- Samples that reach both stations, with the frames that were sent and the words that were drawn.
use Rattle.channel_bench.proofs.Common.{◌≡◌, ℤ, List, sym, ap, ◌∙◌, subst, Lcg, A, B, Run, BenchWords, BenchState}
use Rattle.channel_bench.proofs.Common.{StandsForCommon, StandsForSide, StandsForRun, with_noise_drawn, after_noise}
use Rattle.channel_bench.proofs.Common.{carried, reaching, sent_in, sounding, with_losses, with_noise, with_samples}
use Rattle.channel_bench.specs.HeldBench.{after_b, reaching_a, reaching_b, with_both}
use Rattle.channel_bench.proofs.SoundLemmas.{DrawsMore, stands_drawing}

-- all but both stations is as it was
pub record KeepsShared (before after : Run) : Type 0 where
  pub words : after.words ≡ before.words
  pub shared : after.shared ≡ before.shared
  pub text_of_a : after.text_of_a ≡ before.text_of_a
  pub text_of_b : after.text_of_b ≡ before.text_of_b
  pub ticks : after.ticks ≡ before.ticks
  pub closing : after.closing ≡ before.closing

pub both_taken : (before after : Run) (w : BenchWords) (bench : BenchState) (to_a to_b : List ℤ)
    → StandsForRun before w bench
    → StandsForSide A after.a (with_samples to_a (sent_in before.ticks before.b.air.sent) bench.a)
    → StandsForSide B after.b (with_samples to_b (sent_in before.ticks after.a.air.sent) bench.b)
    → KeepsShared before after
    → StandsForRun after w (with_both to_a to_b bench)
both_taken before after w bench to_a to_b h a b same = record {
  words = same.words ∙ h.words;
  a = subst (λ t. StandsForSide A after.a (with_samples to_a (sent_in t bench.b.air.sent) bench.a)) h.ticks
      (subst (λ r. StandsForSide A after.a (with_samples to_a (sent_in before.ticks r.sent) bench.a)) h.b.air a);
  b = subst (λ t. StandsForSide B after.b (with_samples to_b (sent_in t bench.a.air.sent) bench.b)) h.ticks
      (subst (λ r. StandsForSide B after.b (with_samples to_b (sent_in before.ticks r.sent) bench.b)) a.air b);
  shared = subst (λ s. StandsForCommon s bench.common) (sym same.shared) h.shared;
  text_of_a = same.text_of_a ∙ h.text_of_a;
  text_of_b = same.text_of_b ∙ h.text_of_b;
  ticks = same.ticks ∙ h.ticks;
  closing = same.closing ∙ h.closing;
}

-- all but the words that are drawn is as it was
pub record KeepsSides (before after : Run) : Type 0 where
  pub words : after.words ≡ before.words
  pub a : after.a ≡ before.a
  pub b : after.b ≡ before.b
  pub shared : DrawsMore before.shared after.shared
  pub text_of_a : after.text_of_a ≡ before.text_of_a
  pub text_of_b : after.text_of_b ≡ before.text_of_b
  pub ticks : after.ticks ≡ before.ticks
  pub closing : after.closing ≡ before.closing

module _ (before : Run) (w : BenchWords) (bench : BenchState) (to_a to_b : List ℤ) (between : Lcg)
    (h : StandsForRun before w bench)
    (is_b : to_b ≡ reaching before.words.full bench.a bench.b)
    (is_a : to_a ≡ reaching before.words.full bench.b bench.a)
    (first : between ≡ after_noise before.words.noise to_b before.shared.draws) where
  sent_b : to_b ≡ reaching w.full bench.a bench.b
  sent_b = is_b ∙ ap (λ (v : BenchWords). reaching v.full bench.a bench.b) h.words

  sent_a : to_a ≡ reaching w.full bench.b bench.a
  sent_a = is_a ∙ ap (λ (v : BenchWords). reaching v.full bench.b bench.a) h.words

  between_is : between ≡ after_b w bench
  between_is = first ∙ (λ i. after_noise (h.words i).noise (sent_b i) (h.shared.draws i))

  -- the samples that reach B, and those that reach A
  pub noisy_b : (noisy : List ℤ) → noisy ≡ with_noise before.words.noise to_b before.shared.draws
      → noisy ≡ reaching_b w bench
  noisy_b noisy is = is ∙ (λ i. with_noise (h.words i).noise (sent_b i) (h.shared.draws i))

  pub noisy_a : (noisy : List ℤ) → noisy ≡ with_noise before.words.noise to_a between → noisy ≡ reaching_a w bench
  noisy_a noisy is = is ∙ (λ i. with_noise (h.words i).noise (sent_a i) (between_is i))

  -- what the run stands for with the words drawn
  pub noise_drawn : (after : Run) → KeepsSides before after
      → after.shared.draws ≡ after_noise before.words.noise to_a between
      → StandsForRun after w (with_noise_drawn w bench)
  noise_drawn after same second = record {
    words = same.words ∙ h.words;
    a = subst (λ s. StandsForSide A s bench.a) (sym same.a) h.a;
    b = subst (λ s. StandsForSide B s bench.b) (sym same.b) h.b;
    shared = stands_drawing before.shared after.shared bench.common
        (after_noise w.noise (reaching w.full bench.b bench.a) (after_b w bench)) h.shared
        same.shared (second ∙ (λ i. after_noise (h.words i).noise (sent_a i) (between_is i)));
    text_of_a = same.text_of_a ∙ h.text_of_a;
    text_of_b = same.text_of_b ∙ h.text_of_b;
    ticks = same.ticks ∙ h.ticks;
    closing = same.closing ∙ h.closing;
  }

-- what has reached both stations then
pub sounded_is : (w : BenchWords) (bench : BenchState) (to_a to_b : List ℤ)
    → to_a ≡ reaching_a w (with_losses w.loss bench)
    → to_b ≡ reaching_b w (with_losses w.loss bench)
    → with_both to_a to_b (with_noise_drawn w (with_losses w.loss bench)) ≡ sounding w bench
unfolding sounding carried
sounded_is w bench to_a to_b a b = λ i. with_both (a i) (b i) (with_noise_drawn w (with_losses w.loss bench))
