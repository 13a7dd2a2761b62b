-- What both stations send reaches them: what that changes of the bench, and what it leaves.
use Rattle.channel_bench.proofs.Common.{◌≡◌, ℕ, ◌==◌, ◌||◌, ◌&&◌, not, Bool, true, false, ℤ, pos, List, length}
use Rattle.channel_bench.proofs.Common.{replicate, cond, refl, ap, ◌∙◌, length-replicate, Lcg, A, B, BenchWords}
use Rattle.channel_bench.proofs.Common.{BenchState, Near, SideState, near, with_near, after_noise, carried, is_lost}
use Rattle.channel_bench.proofs.Common.{reaching, sends, sent_in, sounding, with_loss, with_losses, with_noise}
use Rattle.channel_bench.proofs.Common.{with_samples, with_transmission, with_words}
use Rattle.channel_bench.proofs.WordLemmas.{length-with_words}

-- a transmission that begins is lost or not
abbrev lost_as : Bool → Lcg → ℕ → ℕ → Near → Near
lost_as silenced draws transmissions lost n = record {
  side = record n.side { silenced = silenced };
  common = record n.common { draws = draws; transmissions = transmissions; lost = lost };
}

record Lost (before after : Near) : Type 0 where
  silenced : Bool
  draws : Lcg
  transmissions : ℕ
  lost : ℕ
  is : after ≡ lost_as silenced draws transmissions lost before

loss_of : (loss : ℕ) (n : Near) → Lost n (with_loss loss n)
unfolding with_loss
loss_of loss n = go n.side.air.began
  where
    go : (b : Bool) → Lost n (cond b (with_transmission (is_lost loss n.common.draws) n) n)
    go true =
        let after = with_transmission (is_lost loss n.common.draws) n in
        record {
          silenced = after.side.silenced;
          draws = after.common.draws;
          transmissions = after.common.transmissions;
          lost = after.common.lost;
          is = refl;
        }
    go false = record {
      silenced = n.side.silenced;
      draws = n.common.draws;
      transmissions = n.common.transmissions;
      lost = n.common.lost;
      is = refl;
    }

-- ---- as many samples as the tick has

noise_long : (noise : ℕ) (samples : List ℤ) (draws : Lcg) → length (with_noise noise samples draws) ≡ length samples
noise_long noise samples draws = go (noise == 0)
  where
    go : (b : Bool) → length (cond b samples (with_words noise samples draws)) ≡ length samples
    go true = refl
    go false = length-with_words noise samples draws

reaching_long : (full : Bool) (sender hearer : SideState) → length sender.air.samples ≡ 96
    → length (reaching full sender hearer) ≡ 96
unfolding reaching
reaching_long full sender hearer long = go (sender.silenced || (not full && sends hearer.air))
  where
    go : (b : Bool) → length (cond b (replicate 96 (pos 0)) sender.air.samples) ≡ 96
    go true = length-replicate 96 (pos 0)
    go false = long

abbrev pub heard_as : (a b : Bool) → (to_a to_b : List ℤ) → Lcg → (transmissions lost : ℕ) → BenchState → BenchState
heard_as a b to_a to_b draws transmissions lost bench = record bench {
  a = with_samples to_a (sent_in bench.ticks bench.b.air.sent) (record bench.a { silenced = a });
  b = with_samples to_b (sent_in bench.ticks bench.a.air.sent) (record bench.b { silenced = b });
  common = record bench.common { draws = draws; transmissions = transmissions; lost = lost };
}

-- Each station has more samples, and the frames whose sending has ended.
pub record Sounded (before after : BenchState) : Type 0 where
  pub silenced_a : Bool
  pub silenced_b : Bool
  pub to_a : List ℤ
  pub to_b : List ℤ
  pub draws : Lcg
  pub transmissions : ℕ
  pub lost : ℕ
  pub long : length before.a.air.samples ≡ 96 → length before.b.air.samples ≡ 96 → (length to_a ≡ 96)
      × (length to_b ≡ 96)
  pub is : after ≡ heard_as silenced_a silenced_b to_a to_b draws transmissions lost before

pub sounded : (w : BenchWords) (bench : BenchState) → Sounded bench (sounding w bench)
unfolding sounding with_losses carried
sounded w bench =
    let la = loss_of w.loss (near A bench) in
    let first = with_near A (lost_as la.silenced la.draws la.transmissions la.lost (near A bench)) bench in
    let lb = loss_of w.loss (near B first) in
    let last = with_near B (lost_as lb.silenced lb.draws lb.transmissions lb.lost (near B first)) first in
    let is : with_losses w.loss bench ≡ last =
    ap (λ (n : Near). with_near B (with_loss w.loss (near B (with_near A n bench))) (with_near A n bench)) la.is
    ∙ ap (λ (n : Near). with_near B n first) lb.is in
    let after = carried w last in
    record {
      silenced_a = la.silenced;
      silenced_b = lb.silenced;
      to_a = sounds_of_a last;
      to_b = sounds_of_b last;
      draws = after.common.draws;
      transmissions = after.common.transmissions;
      lost = after.common.lost;
      long = λ long_a long_b. (
        noise_long w.noise _ _ ∙ reaching_long w.full last.b last.a long_b,
        noise_long w.noise _ _ ∙ reaching_long w.full last.a last.b long_a,
      );
      is = ap (carried w) is;
    }
  where
    sounds_of_a : BenchState → List ℤ
    sounds_of_a last = with_noise w.noise (reaching w.full last.b last.a)
        (after_noise w.noise (reaching w.full last.a last.b) last.common.draws)

    sounds_of_b : BenchState → List ℤ
    sounds_of_b last = with_noise w.noise (reaching w.full last.a last.b) last.common.draws
