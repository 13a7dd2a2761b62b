-- In half duplex no transmission begins while the channel is busy.
use Rattle.std.proofs.Common.{◌≡◌, refl, sym}
use Rattle.std.specs.Prelude.{Bool, true, false, ◌&&◌, if◌then◌else◌, Option, Some, None}
use Rattle.std.specs.Prelude.{is_none, is_some}
use Rattle.std.proofs.lemmas.Bool.{true≢false}
use Rattle.channel_access.specs.Channel.{Channel, Decision, decision, has_nothing, begun}
use Rattle.channel_access.specs.Channel.{with_decision, air_tick}
use Rattle.channel_access.specs.OnAir.{OnAir}

no_begin : (none full : Bool) (a b c : Decision) → full ≡ false → a.begins ≡ false → c.begins ≡ false
    → (if none then a else if full then b else c).begins ≡ false
no_begin true full a b c half first third = first
no_begin false false a b c half first third = third
no_begin false true a b c half first third = absurd (true≢false half)

no_decision : (wants : Bool) (channel : Channel) → channel.parameters.full_duplex ≡ false
    → (decision true wants channel).begins ≡ false
no_decision wants channel half =
    no_begin (has_nothing wants channel) channel.parameters.full_duplex _ _ _ half refl refl

is_begun : (b : Bool) (t : OnAir) → b ≡ false → is_some (if b then Some t else None) ≡ true → ⊥
is_begun false t e began = true≢false (sym began)
is_begun true t e began = true≢false e

at_air : (wants : Bool) (channel : Channel) (air : Option OnAir) → channel.air ≡ air
    → channel.parameters.full_duplex ≡ false
    → (is_none air && is_some (if is_none air then with_decision (decision true wants channel) channel
    else channel).air) ≡ true → ⊥
at_air wants channel None is half began =
    is_begun (decision true wants channel).begins (begun channel) (no_decision wants channel half) began
at_air wants channel (Some t) is half began = true≢false (sym began)

pub begins_while_free : (busy wants : Bool) (channel : Channel) → channel.parameters.full_duplex ≡ false
    → (air_tick busy wants channel).began ≡ true → busy ≡ false
begins_while_free false wants channel half began = refl
begins_while_free true wants channel half began = absurd (at_air wants channel channel.air refl half began)
