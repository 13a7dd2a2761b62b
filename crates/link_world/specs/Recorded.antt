-- An end: its link as a machine, with a record of its set-ups. What the record says never changes what the machine
-- does.
use Rattle.std.specs.Prelude.{ℕ, ◌&&◌, Bool, false, if◌then◌else◌, List, [], ◌∷◌, ◌++◌, length, fold, map, is_some}
use Rattle.ax25_frames.specs.declared.frame.Frame.{Frame}
use Rattle.ax25_frames.specs.declared.frame.Kind.{Kind}
use Rattle.ax25_frames.specs.declared.frame.Kind.TheVariants.{Info, Super, Setup, Ui, Other}
use Rattle.selective_reject.specs.declared.packet.Packet.{Packet}
use Rattle.selective_reject.specs.Incoming.{keeps, took}
use Rattle.link_machine.specs.declared.acts.Told.{Told}
use Rattle.link_machine.specs.declared.acts.Told.TheVariants.{Opened, Given, Ended}
use Rattle.link_machine.specs.declared.state.LinkState.{LinkState}
use Rattle.link_machine.specs.declared.state.LinkState.TheVariants.{Idle, Calling, Up, Releasing}
use Rattle.link_machine.specs.Machine.{Machine, is_valid}
use Rattle.link_machine.specs.Sent.{SentIn, frame_of}
use Rattle.link_machine.specs.Turn.{Turn}
use Rattle.link_machine.specs.Event.{Event}
use Rattle.link_machine.specs.Event.Event.{Connect, Send, Disconnect, Hear, Seize, Tick}
use Rattle.link_machine.specs.Step.{step, refusal_of}
use Rattle.link_world.specs.Flight.{Tagged, asks, is_answer, is_numbered, set_up_of}
use Rattle.link_world.specs.SetUps.{SetUp, opened, giving, getting, acting, change_last}

pub record RecordedEnd : Type 0 where
  pub machine : Machine
  -- its set-ups so far; the last is the running one if the link is up
  pub set_ups : List SetUp
  -- the packets given in the call that is under way; they belong to the set-up that it opens
  pub waiting : List Packet

-- what happens to an end
pub data Happening : Type 0 where
  Connects : Happening
  Sends : (packet : Packet) → Happening
  Disconnects : Happening
  Ticks : (waiting : Bool) → Happening
  Seizes : (last full : Bool) → Happening
  Hears : (frame : Tagged) → Happening

-- what its link sees of that
abbrev pub seen : Happening → Event
seen Connects = Connect
seen (Sends packet) = Send packet
seen Disconnects = Disconnect
seen (Ticks waiting) = Tick waiting
seen (Seizes last full) = Seize last full
seen (Hears tagged) = Hear tagged.frame

-- an I frame is accepted if its N(R) is valid and the receiver keeps its packet
abbrev pub accepts : Machine → Kind → Bool
accepts m (Info ns nr flag pid octets) = is_valid nr m && keeps (took m.incoming ns)
accepts m (Super which nr flag) = false
accepts m (Setup which flag) = false
accepts m (Ui flag pid octets) = false
accepts m (Other which flag octets) = false

-- a packet that the link takes joins those of the running set-up, or those of the call that is under way
abbrev pub taking : LinkState → Packet → RecordedEnd → RecordedEnd
taking Idle packet r = r
taking Calling packet r = record r { waiting = r.waiting ++ packet ∷ [] }
taking Up packet r = record r { set_ups = change_last (giving packet) r.set_ups }
taking Releasing packet r = r

-- a link that is up acts on each I and S frame
abbrev pub hearing : LinkState → Tagged → RecordedEnd → RecordedEnd
hearing Idle tagged r = r
hearing Calling tagged r = r
hearing Up tagged r =
    if is_numbered tagged.frame.kind
    then record r { set_ups = change_last (acting tagged.set_up (accepts r.machine tagged.frame.kind)) r.set_ups }
    else r
hearing Releasing tagged r = r

-- what is recorded of what happens; a request that the link refuses leaves nothing after
abbrev pub noting : Happening → RecordedEnd → RecordedEnd
noting Connects r = r
noting (Sends packet) r =
    if is_some (refusal_of r.machine (Send packet)) then r else taking r.machine.control.state packet r
noting Disconnects r = r
noting (Ticks waiting) r = r
noting (Seizes last full) r = r
noting (Hears tagged) r = hearing r.machine.control.state tagged r

-- the set-up that a heard frame belongs to; nothing but a heard frame opens a set-up
abbrev pub mate_of : Happening → ℕ
mate_of Connects = 0
mate_of (Sends packet) = 0
mate_of Disconnects = 0
mate_of (Ticks waiting) = 0
mate_of (Seizes last full) = 0
mate_of (Hears tagged) = tagged.set_up

-- the set-up that opens in a turn, if one does: in the link's modulus, with what was given in the call
abbrev pub opening : Happening → RecordedEnd → Turn → SetUp
opening h noted turn = opened (mate_of h) turn.now.incoming.modulus noted.waiting

-- what is recorded of what the link tells: the next set-up begins, and the last one gets packets
abbrev pub told_of : SetUp → List SetUp → Told → List SetUp
told_of next set_ups (Opened ours) = set_ups ++ next ∷ []
told_of next set_ups (Given packet) = change_last (getting packet) set_ups
told_of next set_ups (Ended why) = set_ups

-- packets wait for a set-up while the call is under way
abbrev pub waiting_in : LinkState → List Packet → List Packet
waiting_in Idle waiting = []
waiting_in Calling waiting = waiting
waiting_in Up waiting = []
waiting_in Releasing waiting = []

-- the end after what happened, if its link makes this turn
abbrev pub following : Happening → RecordedEnd → Turn → RecordedEnd
following h r turn =
    let noted = noting h r in
    record {
      machine = turn.now;
      set_ups = fold (told_of (opening h noted turn)) noted.set_ups turn.told;
      waiting = waiting_in turn.now.control.state noted.waiting;
    }

-- a UA or DM that is sent on hearing a SABM, SABME or DISC answers it
abbrev pub hears_ask : Happening → Bool
hears_ask Connects = false
hears_ask (Sends packet) = false
hears_ask Disconnects = false
hears_ask (Ticks waiting) = false
hears_ask (Seizes last full) = false
hears_ask (Hears tagged) = asks tagged.frame.kind

-- a frame as the end sends it, with its tags
abbrev pub tagged_as : Frame → Bool → RecordedEnd → SentIn → Tagged
tagged_as frame on_ask r sent = record {
  frame = frame;
  modulus = sent.modulus;
  sent = sent.frame;
  set_up = set_up_of frame.kind r.machine.control.state (length r.set_ups);
  answers = on_ask && is_answer frame.kind;
}

abbrev pub tagged : Bool → RecordedEnd → SentIn → Tagged
tagged on_ask r sent = tagged_as (frame_of sent.modulus r.machine.path sent.frame) on_ask r sent

-- what an end becomes, sends and tells
pub record EndTurn : Type 0 where
  pub now : RecordedEnd
  pub sent : List Tagged
  pub told : List Told

abbrev pub end_turn_of : Happening → RecordedEnd → Turn → EndTurn
end_turn_of h r turn =
    let now = following h r turn in record { now = now; sent = map (tagged (hears_ask h) now) turn.sent; told = turn.told }

-- one step of its link, whatever the record says
abbrev pub end_turn : Happening → RecordedEnd → EndTurn
end_turn h r = end_turn_of h r (step r.machine (seen h))

-- nothing happens to it
abbrev pub no_turn : RecordedEnd → EndTurn
no_turn r = record { now = r; sent = []; told = [] }
