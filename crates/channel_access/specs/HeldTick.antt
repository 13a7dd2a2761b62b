-- A tick, as what is kept tells it. No public clause cites it.
use Rattle.std.specs.Prelude.{Bool, ◌&&◌, if◌then◌else◌, ℤ, pos, List, replicate, Option, Some, None, is_some, is_none}
use Rattle.channel_access.specs.declared.air_tick.AirTick.{AirTick}
use Rattle.channel_access.specs.declared.air_tick.Sent.{Sent}
use Rattle.channel_access.specs.declared.sending.Sending.{Sending}
use Rattle.channel_access.specs.Waiting.{WaitingFrame}
use Rattle.channel_access.specs.Channel.{Channel, Decision, decision}
use Rattle.channel_access.specs.Held.{Held, Run, tick_start, with_bits, stage_over, new_sending, held_after}
use Rattle.channel_access.specs.Modem.{tick_bits}
use Rattle.channel_access.specs.HeldWave.{modem_of}
use Rattle.channel_access.specs.Happenings.{Happening}
use Rattle.channel_access.specs.Happenings.Happening.{Ticked}

-- the channel at rest, with what has come to pass
abbrev pub channel_of : List Happening → Held → Channel
channel_of past held = record {
  modem = held.modem;
  waiting = held.waiting;
  parameters = held.parameters;
  generator = held.generator;
  slot = held.slot;
  air = None;
  past = past;
}

abbrev pub with_held_decision : Decision → Held → Held
with_held_decision d held = record held { slot = d.slot; generator = d.generator }

-- a tick of a sender
abbrev pub run_of : Sending → List WaitingFrame → Run
run_of s waiting = with_bits (modem_of s.wave) (tick_bits (modem_of s.wave)) (tick_start s waiting)

-- the sender after it, if something is left
abbrev pub going_on : Sending → Option Sending
going_on s = if stage_over s.stage then None else Some s

abbrev pub held_samples : Option Sending → List WaitingFrame → List ℤ
held_samples None waiting = replicate 96 (pos 0)
held_samples (Some s) waiting = (run_of s waiting).samples

abbrev pub held_sent : Option Sending → List WaitingFrame → Option Sent
held_sent None waiting = None
held_sent (Some s) waiting = (run_of s waiting).sent

abbrev pub after_held_send : Option Sending → Held → Held
after_held_send None held = held
after_held_send (Some s) held = record held {
  sending = going_on (run_of s held.waiting).sending;
  waiting = (run_of s held.waiting).waiting;
}

-- what is kept with the decision of a tick, if it is at rest
abbrev pub held_begun : Bool → Bool → List Happening → Held → Option Sending → Held
held_begun busy wants past held (Some s) = held
held_begun busy wants past held None =
    let d = decision busy wants (channel_of past held) in
    record (with_held_decision d held) { sending = if d.begins then Some (new_sending held.modem held.parameters) else None }

abbrev pub held_tick : Bool → Bool → List Happening → Held → AirTick
held_tick busy wants past held =
    let now = held_begun busy wants past held held.sending in
    record {
      samples = held_samples now.sending now.waiting;
      began = is_none held.sending && is_some now.sending;
      sent = held_sent now.sending now.waiting;
    }

-- what happened in a tick
abbrev pub held_happening : Bool → Bool → List Happening → Held → Happening
held_happening busy wants past held =
    let now = held_begun busy wants past held held.sending in
    Ticked busy (is_none held.sending && is_some now.sending) (is_some now.sending)

abbrev pub after_held_tick : Bool → Bool → List Happening → Held → Held
after_held_tick busy wants past held =
    let now = held_begun busy wants past held held.sending in
    held_after (held_happening busy wants past held) past (after_held_send now.sending now)
