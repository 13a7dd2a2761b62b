-- What reaches the stations in a tick.
use Rattle.channel_bench.proofs.Common.{◌≡◌, ◌-◌, Bool, true, false, ◌||◌, ◌&&◌, ℤ, pos, List, ◌++◌, length, replicate}
use Rattle.channel_bench.proofs.Common.{not, cond, sym, ap, ◌∙◌, subst, arith, length-append, All, Candidate}
use Rattle.channel_bench.proofs.Common.{AreMergedBetween, Lcg, Shared, SideState, Common, ways_of, StandsForCommon}
use Rattle.channel_bench.proofs.Common.{StandsForWays, ArePlainlyReady, mark_of, reaching, sends}
use Rattle.channel_access.specs.declared.air_tick.AirTick.{AirTick}
use Rattle.channel_bench.proofs.Loudness.{IsLoudAtMost, silence_within}

-- no sample that reaches a station is louder than those that are sent
pub reaching_within : (full : Bool) (sender hearer : SideState) → All IsLoudAtMost sender.air.samples
    → All IsLoudAtMost (reaching full sender hearer)
unfolding reaching
reaching_within full sender hearer h = go (sender.silenced || (not full && sends hearer.air))
  where
    go : (b : Bool) → All IsLoudAtMost (cond b (replicate 96 (pos 0)) sender.air.samples)
    go true = silence_within 96
    go false = h

-- silence reaches it, or what is sent
pub reaching_is : (full : Bool) (sender hearer : SideState) (silenced : Bool) (mine theirs : AirTick) (silent : Bool)
    (samples : List ℤ)
    → silenced ≡ sender.silenced → mine ≡ sender.air → theirs ≡ hearer.air
    → silent ≡ (silenced || (not full && sends theirs))
    → samples ≡ cond silent (replicate 96 (pos 0)) mine.samples → samples ≡ reaching full sender hearer
unfolding reaching
reaching_is full sender hearer silenced mine theirs silent samples own air other so is =
    let silent_is : silent ≡ (sender.silenced || (not full && sends hearer.air)) =
    so ∙ ap (λ b. b || (not full && sends theirs)) own ∙ ap (λ a. sender.silenced || (not full && sends a)) other in
    is ∙ ap (λ b. cond b (replicate 96 (pos 0)) mine.samples) silent_is
    ∙ ap (λ a. cond (sender.silenced || (not full && sends hearer.air)) (replicate 96 (pos 0)) a.samples) air

-- the frames that are ready with 96 samples more, where no blocks are read
pub ready_with : (x y : List ℤ) (items : List Candidate) → length y ≡ 96
    → AreMergedBetween (mark_of x) (mark_of (x ++ y)) (x ++ y) items → ArePlainlyReady (x ++ y) items
ready_with x y items size h =
    let all = length-append x y in
    let from : mark_of x ≡ length (x ++ y) - 103 = omega arith in
    subst (λ n. AreMergedBetween n (mark_of (x ++ y)) (x ++ y) items) from h

-- ---- both stations hear what the other sends

-- what both share, after more words
pub record DrawsMore (before after : Shared) : Type 0 where
  pub flight : after.flight ≡ before.flight
  pub transmissions : after.transmissions ≡ before.transmissions
  pub lost : after.lost ≡ before.lost
  pub trouble : after.trouble ≡ before.trouble

pub stands_drawing : (before after : Shared) (common : Common) (draws : Lcg) → StandsForCommon before common
    → DrawsMore before after
    → after.draws ≡ draws → StandsForCommon after (record common { draws = draws })
stands_drawing before after common draws h same is = record {
  flight = subst (λ f. StandsForWays f (ways_of common)) (sym same.flight) h.flight;
  draws = is;
  transmissions = same.transmissions ∙ h.transmissions;
  lost = same.lost ∙ h.lost;
  trouble = same.trouble ∙ h.trouble;
}
