-- What a link keeps in one event, act by act. No public clause speaks of this.
use Rattle.std.specs.Prelude.{All, ◌≤◌, ◌-◌, replicate, Result, Ok, Err, ◌≡◌, ℕ, Bool, false, ◌||◌, length, if◌then◌else◌}
use Rattle.std.specs.Prelude.{slice_get, Option, Some, None}
use Rattle.selective_reject.specs.Outgoing.{IsOutgoing, first_again}
use Rattle.selective_reject.specs.Incoming.{Incoming, IsIncoming}
use Rattle.selective_reject.specs.declared.window.Mode.TheVariants.{Rej}
use Rattle.selective_reject.specs.Places.{empty_place, is_full}
use Rattle.link_machine.specs.declared.machine.Machine.{Machine as Held}
use Rattle.link_machine.specs.declared.room.Room.{Room}
use Rattle.link_machine.specs.Machine.{Machine, most_octets, is_valid, named, modulus_named}
use Rattle.link_machine.specs.Sent.{sent_frames}
use Rattle.link_machine.specs.Acts.{reset}
use Rattle.link_machine.specs.Wants.{is_missing_some, is_asked_again, may_send_info}
use Rattle.link_machine.specs.Seizing.{polled_packet}
use Rattle.link_machine.specs.Frames.{hear_supervisory}
use Rattle.link_machine.specs.Step.{settled}
use Rattle.link_machine.specs.Done.{Done}
use Rattle.tnc_base.specs.declared.fault.OutOfMemory.{OutOfMemory}
use Rattle.link_machine.specs.Turn.{Turn, Act, begin}
use Rattle.selective_reject.specs.declared.packet.Packet.{Packet}
use Rattle.link_machine.specs.StandsFor.{StandsFor}
use Rattle.link_machine.specs.declared.acts.SentFrame.{SentFrame}
use Rattle.ax25_address.specs.declared.path.Role.{Role}
use Rattle.ax25_frames.specs.declared.frame.Kind.{Kind}
use Rattle.ax25_frames.specs.declared.frame.S.{S}

-- what holds of each link between two events, and between two acts
pub record IsLink (held : Held) : Type 0 where
  pub outgoing : IsOutgoing held.outgoing
  pub incoming : IsIncoming held.incoming

-- between two events no packet waits for its turn to be given: that with number V(R) is not there, and by REJ none is
pub record IsReady (i : Incoming) : Type 0 where
  pub next : is_full i.places 0 ≡ false
  pub in_sequence : i.mode ≡ Rej → i.places ≡ replicate i.window empty_place

-- the link stands for the machine
pub record Holds (held : Held) (m : Machine) : Type 0 where
  pub stands : StandsFor held m
  pub formed : IsLink held
  pub next : IsReady held.incoming

-- a frame on the link's path, in the modulus that the link has
abbrev pub frame_from : Held → Role → Kind → SentFrame
frame_from held role kind = record {
  frame = record { path = record held.path { role = role }; kind = kind };
  modulus = modulus_named held.incoming.modulus;
}

-- the link and what it has done so far stand for the turn
pub record Shows (held : Held) (room : Room) (turn : Turn) : Type 0 where
  pub holds : Holds held turn.now
  pub frames : room.frames.items ≡ sent_frames turn.now.path turn.sent
  pub told : room.told.items ≡ turn.told

abbrev pub packet_ahead : Option ℕ → Machine → Option Packet
packet_ahead None m = None
packet_ahead (Some ahead) m = slice_get m.outgoing.packets ahead

-- the packet of the I frame that goes out, if one does
abbrev pub carried : Machine → Option Packet
carried m =
    if m.control.rej || is_missing_some m || m.control.answer then None else
    if m.control.ask then polled_packet m else
    if is_asked_again m then packet_ahead (first_again m.outgoing) m else
    if may_send_info m then slice_get m.outgoing.packets (m.outgoing.vs - m.outgoing.va) else None

-- the room that closing may need
abbrev pub frames_to_close : Held → ℕ
frames_to_close held = if held.control.quit then 1 else 0

-- what holds of each link between two events
pub record IsWhole (held : Held) : Type 0 where
  pub link : IsLink held
  pub next : IsReady held.incoming

-- a packet of at most N1 octets
abbrev pub IsShort : Packet → Type 0
IsShort packet = length packet.octets ≤ most_octets

-- what holds of each link between two calls
pub record IsKept (held : Held) : Type 0 where
  pub whole : IsWhole held
  pub short : All IsShort held.outgoing.packets

-- a frame with a valid N(R), or one with another
abbrev pub hear_numbered : ℕ → (ℕ → Act) → Act
hear_numbered nr hear t = if is_valid nr t.now then hear (named nr t.now) t else reset t

abbrev pub hear_supervisory_of : S → Bool → Bool → ℕ → Act
hear_supervisory_of which command flag n = hear_supervisory which n command flag

-- the link has become and done what an event makes of it
pub record Made (turn : Turn) (following : Held) (done : Done) : Type 0 where
  pub holds : Holds following turn.now
  pub frames : done.frames ≡ sent_frames turn.now.path turn.sent
  pub told : done.told ≡ turn.told

-- what an event makes of a link, an act being its row; nothing if memory was not given
abbrev pub Makes : Act → Held → Held → Result Done OutOfMemory → Type 0
Makes act before following (Ok done) = (m : Machine) → Holds before m → Made (settled (act (begin m))) following done
Makes act before following (Err fault) = following ≡ before
