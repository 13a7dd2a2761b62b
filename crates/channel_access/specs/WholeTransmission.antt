-- A run of calls of a channel, and what one whole transmission is over all its ticks (AX.25 2.2 section 3).
use Rattle.std.specs.Prelude.{◌≡◌, ℕ, ◌<◌, ◌≤◌, Bool, ℤ, pos, List, [], ◌∷◌, ◌++◌, length, map, replicate, Option}
use Rattle.std.specs.Prelude.{None, IsSome, option_map}
use Rattle.std.specs.Option.{option_to_list}
use Rattle.std.specs.List.{All, flat_map}
use Rattle.hdlc_framer.specs.FrameLength.{HasFrameLength}
use Rattle.channel_access.specs.declared.air_tick.AirTick.{AirTick}
use Rattle.channel_access.specs.declared.air_tick.Sent.{Sent}
use Rattle.channel_access.specs.declared.modem.Modem.{Modem}
use Rattle.channel_access.specs.declared.parameters.Param.{Param}
use Rattle.channel_access.specs.Modem.{transmission_by}
use Rattle.channel_access.specs.Parameters.{opening_flags, closing_flags}
use Rattle.channel_access.specs.Waiting.{WaitingFrame}
use Rattle.channel_access.specs.OnAir.{most_frames}
use Rattle.channel_access.specs.Channel.{Channel, with_frame, with_setting, with_heard, air_tick}
use Rattle.channel_access.specs.Channel.{after_tick}

-- ---- a run of calls

-- A frame joins the queue, a parameter is set, a frame was heard, which was an event of a link or not, or a tick passes,
-- in which another station is heard or not and a link wants to send or not.
pub data Call : Type 0 where
  Queues : Option ℕ → List ℕ → Call
  Sets : Param → Call
  Hears : Bool → Call
  Ticks : (busy wants : Bool) → Call

abbrev pub after_call : Call → Channel → Channel
after_call (Queues link octets) channel = with_frame link octets channel
after_call (Sets param) channel = with_setting param channel
after_call (Hears ours) channel = with_heard ours channel
after_call (Ticks busy wants) channel = after_tick busy wants channel

-- the channel after all of them
abbrev pub after_calls : List Call → Channel → Channel
after_calls [] channel = channel
after_calls (call ∷ calls) channel = after_calls calls (after_call call channel)

-- what the channel sends in a call
abbrev pub tick_of_call : Call → Channel → List AirTick
tick_of_call (Queues link octets) channel = []
tick_of_call (Sets param) channel = []
tick_of_call (Hears ours) channel = []
tick_of_call (Ticks busy wants) channel = air_tick busy wants channel ∷ []

-- the ticks of some calls, in order
abbrev pub ticks_of : List Call → Channel → List AirTick
ticks_of [] channel = []
ticks_of (call ∷ calls) channel = tick_of_call call channel ++ ticks_of calls (after_call call channel)

-- the frames that join the queue in them, in order
abbrev pub joins_in : Call → List WaitingFrame
joins_in (Queues link octets) = (record { link = link; octets = octets }) ∷ []
joins_in (Sets param) = []
joins_in (Hears ours) = []
joins_in (Ticks busy wants) = []

abbrev pub joining : List Call → List WaitingFrame
joining calls = flat_map joins_in calls

-- ---- one transmission

abbrev pub AreFrames : List WaitingFrame → Type 0
AreFrames frames = All (λ frame. HasFrameLength frame.octets) frames

-- A transmission is under way before each of these calls, and none is after them.
abbrev pub GoesToItsEnd : List Call → Channel → Type 0
GoesToItsEnd [] channel = channel.air ≡ None
GoesToItsEnd (call ∷ calls) channel = IsSome channel.air × GoesToItsEnd calls (after_call call channel)

-- the octets of frames
abbrev pub octets_of : List WaitingFrame → List (List ℕ)
octets_of frames = map (λ frame. frame.octets) frames

-- the samples of ticks, and the frames that they name as sent
abbrev pub samples_in : List AirTick → List ℤ
samples_in ticks = flat_map (λ tick. tick.samples) ticks

abbrev pub names_of : Option Sent → List (List ℕ)
names_of sent = option_to_list (option_map (λ s. s.octets) sent)

abbrev pub named_in : List AirTick → List (List ℕ)
named_in ticks = flat_map (λ tick. names_of tick.sent) ticks

-- These ticks are one transmission of these frames by a modem, with so many opening and closing flags: its samples, and
-- zeros up to the end of the last tick, which are fewer than a tick has. Each frame is named once, in order. There may be
-- none: a link that wanted to send as it began may want no longer where the opening flags end.
pub record AreOneTransmission (modem : Modem) (frames : List (List ℕ)) (opening closing : ℕ) (ticks : List AirTick) : Type 0 where
  pub few : length frames ≤ most_frames
  pub zeros : ℕ
  pub fewer : zeros < 96
  pub samples : samples_in ticks ≡ transmission_by modem frames opening closing ++ replicate zeros (pos 0)
  pub named : named_in ticks ≡ frames

-- What some calls send is one transmission, of the first frames of the queue, those that join it meanwhile among them,
-- with the flags that the parameters ask for at the first of the calls, by the modem of the channel.
pub record SendOneTransmission (calls : List Call) (channel : Channel) : Type 0 where
  pub frames : List WaitingFrame
  pub front : channel.waiting ++ joining calls ≡ frames ++ (after_calls calls channel).waiting
  pub whole : AreOneTransmission channel.modem (octets_of frames)
      (opening_flags channel.modem channel.parameters.tx_delay)
      (closing_flags channel.modem channel.parameters.tx_tail) (ticks_of calls channel)
