-- A tick of the channel sends nothing if no transmission is under way before it and none begins with it; and none
-- begins while one is under way.
use Rattle.std.proofs.Common.{◌≡◌, List, refl, sym, ap, ◌∙◌}
use Rattle.std.proofs.lemmas.Bool.{true≢false}
use Rattle.std.specs.Prelude.{Bool, true, false, ◌&&◌, if◌then◌else◌, Option, Some, None, is_none, is_some}
use Rattle.channel_access.specs.Channel.{Channel, after_rules, after_tick, air_after, air_samples, air_tick, begun}
use Rattle.channel_access.specs.Channel.{decision, with_decision}
use Rattle.channel_access.specs.OnAir.{OnAir}
use Rattle.channel_access.specs.Sound.{has_sound}

module _ (busy wants : Bool) (channel : Channel) where
  -- the channel by its rules, if this is under way
  abbrev ruled : Option OnAir → Channel
  ruled air = if is_none air then with_decision (decision busy wants channel) channel else channel

  not_begun : (b : Bool) (t : OnAir) → is_some (if b then Some t else None) ≡ false → (if b then Some t else None) ≡ None
  not_begun true t none = absurd (true≢false none)
  not_begun false t none = refl

  none_then : (air : Option OnAir) → channel.air ≡ air → air ≡ None
      → (is_none air && is_some (ruled air).air) ≡ false → (ruled air).air ≡ None
  none_then None is rest none = not_begun (decision busy wants channel).begins (begun channel) none
  none_then (Some t) is rest none = absurd (cc rest)

  at_rest : channel.air ≡ None → (air_tick busy wants channel).began ≡ false
      → (after_rules busy wants channel).air ≡ None
  at_rest rest none = none_then channel.air refl rest none

  pub is_silent : channel.air ≡ None → (air_tick busy wants channel).began ≡ false
      → has_sound (air_tick busy wants channel).samples ≡ false
  is_silent rest none =
      ap (λ (air : Option OnAir). has_sound (air_samples (after_rules busy wants channel).waiting air))
      (at_rest rest none)

  pub stays_at_rest : channel.air ≡ None → (air_tick busy wants channel).began ≡ false
      → (after_tick busy wants channel).air ≡ None
  stays_at_rest rest none =
      ap (λ (air : Option OnAir). air_after (after_rules busy wants channel).waiting air) (at_rest rest none)
