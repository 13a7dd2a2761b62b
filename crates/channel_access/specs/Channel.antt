-- The access to the channel, tick by tick: p-persistence in half duplex, and at once in full duplex (the KISS TNC
-- protocol, Chepponis and Karn).
use Rattle.std.specs.Prelude.{◌≡◌, ℕ, ◌-◌, ◌==◌, nat_lt, nat_le, Bool, true, false, ◌&&◌, ◌||◌, if◌then◌else◌, ℤ, pos}
use Rattle.std.specs.Prelude.{List}
use Rattle.std.specs.Prelude.{[], ◌∷◌, ◌++◌, ◌+◌, not, length, replicate, Option, Some, None, is_some, is_none}
use Rattle.std.specs.List.{list_any}
use Rattle.rand_pcg.specs.Lcg.{Lcg}
use Rattle.channel_access.specs.declared.air_tick.AirTick.{AirTick}
use Rattle.channel_access.specs.declared.air_tick.Sent.{Sent}
use Rattle.channel_access.specs.declared.modem.Modem.{Modem}
use Rattle.channel_access.specs.declared.modem.Modem.TheVariants.{Bell202}
use Rattle.channel_access.specs.declared.parameters.Param.{Param}
use Rattle.channel_access.specs.declared.parameters.Parameters.{Parameters}
use Rattle.channel_access.specs.Parameters.{default_parameters, with_param, opening_flags, closing_flags}
use Rattle.channel_access.specs.Happenings.{Happening}
use Rattle.channel_access.specs.Happenings.Happening.{Heard, Ticked}
use Rattle.channel_access.specs.Turns.{was_quiet, is_spoken_to, is_its_turn}
use Rattle.channel_access.specs.Waiting.{WaitingFrame}
use Rattle.channel_access.specs.Words.{generator_of, draw_stream, draw, after_word}
use Rattle.channel_access.specs.OnAir.{OnAir, bits_then, decided, has_sent_frames, most_frames}
use Rattle.channel_access.specs.OnAir.{waiting_after, with_named, waiting_with_named, frame_named, tick_samples, with_tick}

-- The modem, which never changes; the frames that wait, in order, with those of the transmission under way that are not
-- named as sent yet; the ticks that are left of a slot; and the transmission under way.
pub record Channel : Type 0 where
  pub modem : Modem
  pub waiting : List WaitingFrame
  pub parameters : Parameters
  pub generator : Lcg
  pub slot : ℕ
  pub air : Option OnAir
  pub past : List Happening

-- before any call, with the draws of a seed
abbrev pub new_channel_by : Modem → ℕ → Channel
new_channel_by modem seed =
    record {
      modem = modem;
      waiting = [];
      parameters = default_parameters;
      generator = generator_of seed draw_stream;
      slot = 0;
      air = None;
      past = [];
    }

-- the same for Bell 202
abbrev pub new_channel : ℕ → Channel
new_channel seed = new_channel_by Bell202 seed

-- with one frame more
abbrev pub with_frame : Option ℕ → List ℕ → Channel → Channel
with_frame link octets channel =
    record channel { waiting = channel.waiting ++ (record { link = link; octets = octets }) ∷ [] }

abbrev pub with_setting : Param → Channel → Channel
with_setting param channel = record channel { parameters = with_param param channel.parameters }

-- a frame was heard, which was an event of a link or not
abbrev pub with_heard : Bool → Channel → Channel
with_heard ours channel = record channel { past = Heard ours ∷ channel.past }

-- ---- a tick at rest

-- what it decides, and how it leaves the slot and the generator
pub record Decision : Type 0 where
  pub begins : Bool
  pub slot : ℕ
  pub generator : Lcg

-- The slot is set in the first tick that is not busy after one that was not quiet: none for a station that is spoken
-- to, and else the slot time.
abbrev pub slot_in : Bool → Channel → ℕ
slot_in busy channel =
    if busy || was_quiet channel.past then channel.slot
    else if is_spoken_to channel.past then 0
    else channel.parameters.slot_time

-- there is nothing to send: no frame waits, and no link wants to send
abbrev pub has_nothing : Bool → Channel → Bool
has_nothing wants channel = (length channel.waiting == 0) && not wants

-- The first rule that fits decides: there is nothing to send; full duplex; the channel is busy; it is the station's turn;
-- the slot runs; a draw. `wants` says that a link wants to send.
abbrev pub decision : Bool → Bool → Channel → Decision
decision busy wants channel =
    let slot = slot_in busy channel in
    if has_nothing wants channel
    then record { begins = false; slot = slot - 1; generator = channel.generator }
    else if channel.parameters.full_duplex
    then record { begins = true; slot = slot; generator = channel.generator }
    else if busy then record { begins = false; slot = slot; generator = channel.generator }
    else if is_its_turn channel.parameters.slot_time channel.past
    then record { begins = true; slot = slot; generator = channel.generator }
    else if nat_lt 0 slot
    then record { begins = false; slot = slot - 1; generator = channel.generator }
    else if nat_le (draw channel.generator) channel.parameters.persist
    then record { begins = true; slot = slot; generator = after_word channel.generator }
    else record { begins = false; slot = channel.parameters.slot_time; generator = after_word channel.generator }

-- a transmission that begins now, with its opening flags
abbrev pub begun : Channel → OnAir
begun channel = record {
  modem = channel.modem;
  opening = opening_flags channel.modem channel.parameters.tx_delay;
  closing = closing_flags channel.modem channel.parameters.tx_tail;
  frames = [];
  ends = false;
  named = 0;
  ticks = 0;
}

abbrev pub with_decision : Decision → Channel → Channel
with_decision d channel =
    record channel { slot = d.slot; generator = d.generator; air = if d.begins then Some (begun channel) else None }

-- the channel with the decision of a tick, if it is at rest
abbrev pub after_rules : Bool → Bool → Channel → Channel
after_rules busy wants channel =
    if is_none channel.air then with_decision (decision busy wants channel) channel else channel

-- ---- the channel takes a frame of a link

abbrev pub is_of_link : WaitingFrame → Bool
is_of_link frame = is_some frame.link

-- With the bits of the next tick the opening flags or a frame end, fewer than eight frames were sent, and none of a link
-- waits to follow. So at most one frame of a link waits, and it was made as late as can be.
abbrev pub takes_on_air : List WaitingFrame → Option OnAir → Bool
takes_on_air waiting None = false
takes_on_air waiting (Some t) =
    has_sent_frames (bits_then t) t && nat_lt (length t.frames) most_frames
    && not (list_any is_of_link (waiting_after t waiting))

-- Whether the channel takes a frame of a link in the next tick. At rest it takes none, also where a transmission begins
-- with that tick: two opening flags are longer than a tick.
abbrev pub takes_frame : Channel → Bool
takes_frame channel = takes_on_air channel.waiting channel.air

-- a transmission ends with its eighth frame
abbrev pub is_last_on_air : Option OnAir → Bool
is_last_on_air None = false
is_last_on_air (Some t) = length t.frames + 1 == most_frames

abbrev pub takes_last : Channel → Bool
takes_last channel = is_last_on_air channel.air

-- ---- what a tick sends

-- a tick of a transmission, or of silence
abbrev pub air_samples : List WaitingFrame → Option OnAir → List ℤ
air_samples waiting None = replicate 96 (pos 0)
air_samples waiting (Some t) = tick_samples (decided (bits_then t) waiting t)

abbrev pub air_sent : List WaitingFrame → Option OnAir → Option Sent
air_sent waiting None = None
air_sent waiting (Some t) = frame_named (bits_then t) (decided (bits_then t) waiting t)

abbrev pub air_waiting : List WaitingFrame → Option OnAir → List WaitingFrame
air_waiting waiting None = waiting
air_waiting waiting (Some t) = waiting_with_named (bits_then t) (decided (bits_then t) waiting t) waiting

abbrev pub air_after : List WaitingFrame → Option OnAir → Option OnAir
air_after waiting None = None
air_after waiting (Some t) = with_tick (with_named (bits_then t) (decided (bits_then t) waiting t))

-- a transmission began with a tick, in which this is on the air
abbrev pub began_in : Channel → Option OnAir → Bool
began_in channel now = is_none channel.air && is_some now

-- a tick of the channel
abbrev pub air_tick : Bool → Bool → Channel → AirTick
air_tick busy wants channel =
    let now = after_rules busy wants channel in
    record {
      samples = air_samples now.waiting now.air;
      began = began_in channel now.air;
      sent = air_sent now.waiting now.air;
    }

-- and the channel after it
abbrev pub after_tick : Bool → Bool → Channel → Channel
after_tick busy wants channel =
    let now = after_rules busy wants channel in
    record now {
      waiting = air_waiting now.waiting now.air;
      air = air_after now.waiting now.air;
      past = Ticked busy (began_in channel now.air) (is_some now.air) ∷ now.past;
    }

-- What a tick takes out of the frames that wait: the frame that it names, which is the front one, or none.
abbrev pub Takes : Option Sent → List WaitingFrame → List WaitingFrame → Type 0
Takes None before after = after ≡ before
Takes (Some sent) [] after = ⊥
Takes (Some sent) (front ∷ others) after = (sent.octets ≡ front.octets) × (after ≡ others)
