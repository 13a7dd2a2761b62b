-- What the two ends of a link agree on by XID (AX.25 2.2 sections 4.3.3.7 and 6.3.2): the smaller window, the longer T1 and
-- the more retries. The modulus of the link, and by what it asks for lost frames, stay as the set-up has them. The end
-- that called in modulus 128 asks, and asks again each time that TM201 runs out, up to four times in all.
use Rattle.std.specs.Prelude.{ℕ, ◌+◌, ◌-◌, ◌*◌, ◌/◌, ◌==◌, min, max, nat_lt, nat_le, Bool, true, false, not, ◌&&◌, ◌||◌}
use Rattle.std.specs.Prelude.{if◌then◌else◌, List, [], ◌∷◌, length, Option, Some, None, is_some}
use Rattle.ax25_address.specs.declared.path.Role.{Role}
use Rattle.ax25_frames.specs.declared.frame.Kind.{Kind}
use Rattle.ax25_frames.specs.declared.frame.Kind.TheVariants.{Info, Super, Setup, Ui, Other}
use Rattle.ax25_frames.specs.FrameText.{is_command_of, has_command_bits}
use Rattle.ax25_frames.specs.ControlField.{numbers}
use Rattle.ax25_frames.specs.declared.frame.Modulus.{Modulus}
use Rattle.ax25_frames.specs.declared.frame.Modulus.TheVariants.{OneTwentyEight}
use Rattle.xid_parameters.specs.declared.parameters.Duplex.TheVariants.{Half}
use Rattle.xid_parameters.specs.declared.parameters.LinkParameters.{LinkParameters}
use Rattle.xid_parameters.specs.declared.parameters.ToldParameters.{ToldParameters}
use Rattle.xid_parameters.specs.Agreement.{agreed_on}
use Rattle.xid_parameters.specs.Reading.{told_in_xid}
use Rattle.link_machine.specs.declared.control.Control.{Control}
use Rattle.link_machine.specs.declared.state.LinkState.{LinkState}
use Rattle.link_machine.specs.declared.state.LinkState.TheVariants.{Idle, Calling, Up, Releasing}
use Rattle.link_machine.specs.declared.params.Params.{Params}
use Rattle.link_machine.specs.Machine.{Machine, modulus_named, most_octets, t1_after}
use Rattle.link_machine.specs.Params.{window_in, mode_in}
use Rattle.link_machine.specs.Sent.Sent.{XidSent}
use Rattle.link_machine.specs.Turn.{Act, setting, sending, in_order}

-- whether a frame is heard as a command: XID, TEST and FRMR are commands by their C bits
abbrev pub is_heard_as_command : Role → Kind → Bool
is_heard_as_command role (Info ns nr poll pid octets) = is_command_of role (Info ns nr poll pid octets)
is_heard_as_command role (Super which nr flag) = is_command_of role (Super which nr flag)
is_heard_as_command role (Setup which flag) = is_command_of role (Setup which flag)
is_heard_as_command role (Ui flag pid octets) = is_command_of role (Ui flag pid octets)
is_heard_as_command role (Other which flag octets) = has_command_bits role

-- The parameters that a link has in a modulus. T1 is told in milliseconds, and is that of a path without repeaters.
abbrev pub parameters_by : Modulus → Params → Control → LinkParameters
parameters_by modulus params c = record {
  duplex = Half;
  mode = mode_in (numbers modulus) params;
  modulus = modulus;
  info_octets = most_octets;
  window = min (window_in (numbers modulus) params) c.most_sent;
  t1 = min 65535 (10 * c.t1_base);
  retries = c.most_retries;
}

-- in its own modulus, and in the greatest that it knows
abbrev pub own_parameters : Machine → LinkParameters
own_parameters m = parameters_by (modulus_named m.incoming.modulus) m.params m.control

abbrev pub widest_parameters : Machine → LinkParameters
widest_parameters m = parameters_by OneTwentyEight m.params m.control

-- what a link has once it is told those of the other end
abbrev pub in_use : LinkParameters → ToldParameters → LinkParameters
in_use own told =
    let agreed = agreed_on own told in
    record own { window = agreed.window; t1 = agreed.t1; retries = agreed.retries }

abbrev pub agreed : List ℕ → Machine → LinkParameters
agreed octets m = in_use (own_parameters m) (told_in_xid octets)

-- it uses what was agreed on
abbrev pub using : LinkParameters → Control → Control
using agreed c = record c {
  most_sent = agreed.window;
  t1_base = max c.t1_base (agreed.t1 / 10);
  most_retries = agreed.retries;
}

-- a link that is to be released, and has nothing left to send
abbrev pub has_done : Machine → Bool
has_done m = m.control.quit && length m.outgoing.packets == 0

-- Up: an XID command is answered by what is agreed on. A link that is released in this event answers nothing.
abbrev pub agree : Bool → List ℕ → Act
agree flag octets turn =
    let own = agreed octets turn.now in in_order (setting (using own) ∷ sending (XidSent false flag own) ∷ []) turn

abbrev pub hear_asking : Bool → List ℕ → Act
hear_asking flag octets turn = if has_done turn.now then turn else agree flag octets turn

-- an XID command was sent, and its answer is awaited
abbrev pub awaits_xid : Control → Bool
awaits_xid c = nat_lt 0 c.asked && is_some c.tm201

-- Up: the answer to it is an XID response with F = 1. It counts once.
abbrev pub concluding : LinkParameters → Control → Control
concluding agreed c = record (using agreed c) { tm201 = None }

abbrev pub hear_answering : Bool → List ℕ → Act
hear_answering flag octets turn =
    if flag && awaits_xid turn.now.control then setting (concluding (agreed octets turn.now)) turn else turn

abbrev pub hear_xid : Bool → Bool → List ℕ → Act
hear_xid command flag octets turn = if command then hear_asking flag octets turn else hear_answering flag octets turn

-- Idle: the answer is what this end can do
abbrev pub answer_xid : Bool → Act
answer_xid flag turn = sending (XidSent false flag (widest_parameters turn.now)) turn

abbrev pub hear_xid_idle : Bool → Bool → Act
hear_xid_idle command flag turn = if command then answer_xid flag turn else turn

-- a call in modulus 128 that is answered has the end ask, if it has not asked before
abbrev pub to_ask : Bool → Control → Control
to_ask wide c = record c { tm201 = if wide && c.asked == 0 then Some 1 else c.tm201 }

-- the most XID commands of a link
abbrev pub most_asked : ℕ
most_asked = 4

-- TM201 runs out with the next tick
abbrev pub ends : Option ℕ → Bool
ends None = false
ends (Some left) = nat_le left 1

-- an XID command goes out with a tick in which the timers do not stand still, unless there were as many as may be
abbrev pub is_due : Bool → Control → Bool
is_due still c = not still && (ends c.tm201 && nat_lt c.asked most_asked)

abbrev pub asks_xid : Bool → Machine → Bool
asks_xid still m = is_due still m.control && not (has_done m)

abbrev pub asks_in : LinkState → Bool → Machine → Bool
asks_in Idle still m = false
asks_in Calling still m = false
asks_in Up still m = asks_xid still m
asks_in Releasing still m = false

abbrev pub asked_once : Control → Control
asked_once c = record c { asked = c.asked + 1; tm201 = Some (t1_after 0 c) }

abbrev pub ask_xid : Act
ask_xid turn = in_order (
    sending (XidSent true true (own_parameters turn.now)) ∷ setting asked_once ∷ []) turn

-- a tick of TM201
abbrev pub one_less : Option ℕ → Option ℕ
one_less None = None
one_less (Some left) = if nat_le left 1 then None else Some (left - 1)

abbrev pub tm201_ticked : Bool → Control → Control
tm201_ticked still c = record c { tm201 = if still then c.tm201 else one_less c.tm201 }
