-- What a world keeps in one event. No public clause speaks of this.
use Rattle.std.specs.Prelude.{◌≡◌, ℕ, ◌+◌, ◌≤◌, ◌⊎◌, ◌&&◌, Bool, true, List, length, map, count_by, All, Option, Some}
use Rattle.std.specs.Prelude.{None, Result, Ok, Err, ◌++◌, false, ◌==◌, IfErr}
use Rattle.std.specs.List.{AllByRecursion as Each}
use Rattle.ax25_frames.specs.FrameOctets.{CanWrite}
use Rattle.ax25_frames.specs.declared.frame.Frame.{Frame}
use Rattle.ax25_frames.specs.declared.fault.FrameFault.{FrameFault}
use Rattle.ax25_frames.specs.declared.fault.FrameFault.TheVariants.{Address, NoControl, NoPid, UnknownControl}
use Rattle.ax25_frames.specs.declared.fault.FrameFault.TheVariants.{InfoTooLong, StrayInfo, Memory as OutOfRoom}
use Rattle.selective_reject.specs.declared.packet.Packet.{Packet}
use Rattle.link_machine.specs.declared.acts.SentFrame.{SentFrame}
use Rattle.link_machine.specs.declared.acts.Told.{Told}
use Rattle.link_machine.specs.Done.{Done}
use Rattle.link_machine.specs.declared.fault.LinkFault.{LinkFault}
use Rattle.link_machine.specs.declared.fault.LinkFault.TheVariants.{WrongState, Full, TooLong, Memory as LinkMemory}
use Rattle.link_machine.specs.declared.machine.Machine.{Machine as HeldLink}
use Rattle.link_machine.specs.Machine.{Machine}
use Rattle.link_machine.specs.StandsFor.{StandsFor as LinkStandsFor}
use Rattle.link_machine.specs.Event.{Event as LinkEvent}
use Rattle.link_machine.specs.Event.Event.{Connect as LinkConnect, Send as LinkSend, Disconnect as LinkDisconnect}
use Rattle.link_machine.specs.Event.Event.{Seize as LinkSeize, Tick as LinkTick, Hear as LinkHear}
use Rattle.link_machine.specs.Asks.{asks as link_asks}
use Rattle.link_world.specs.declared.end.End.{End}
use Rattle.link_world.specs.declared.end.End.TheVariants.{A, B}
use Rattle.link_world.specs.declared.event.Event.{Event}
use Rattle.link_world.specs.declared.event.Event.TheVariants.{Connect, Send, Disconnect, Tick, Seize}
use Rattle.link_world.specs.declared.request.Request.{Request}
use Rattle.link_world.specs.declared.request.Request.TheVariants.{Connect as ConnectRequest, Send as SendRequest}
use Rattle.link_world.specs.declared.request.Request.TheVariants.{Disconnect as DisconnectRequest, Tick as TickRequest}
use Rattle.link_world.specs.declared.request.Request.TheVariants.{Seize as SeizeRequest}
use Rattle.link_world.specs.Recorded.{Happening}
use Rattle.link_world.specs.Recorded.Happening.{Connects, Sends, Disconnects, Ticks, Seizes}
use Rattle.link_world.specs.declared.fault.WorldFault.{WorldFault}
use Rattle.link_world.specs.declared.fault.WorldFault.TheVariants.{NothingThere, Link, NotQuiet, Memory}
use Rattle.link_world.specs.declared.flight.InFlight.{InFlight}
use Rattle.link_world.specs.declared.side.Side.{Side as HeldSide}
use Rattle.link_world.specs.Flight.{asks, is_answer}
use Rattle.link_world.specs.World.{Side, World, near_step, near_turn, step, told_by}
use Rattle.link_world.specs.StandsFor.{all_in_flight}

-- octets were not read for want of memory
abbrev pub is_memory : FrameFault → Bool
is_memory (Address fault) = false
is_memory (NoControl at) = false
is_memory (NoPid at) = false
is_memory (UnknownControl octet) = false
is_memory (InfoTooLong len) = false
is_memory (StrayInfo at) = false
is_memory OutOfRoom = true

-- a packet is no longer than N1
abbrev pub IsShort : Packet → Type 0
IsShort packet = length packet.octets ≤ 256

abbrev pub IsModulus : ℕ → Type 0
IsModulus modulus = (modulus ≡ 8) ⊎ (modulus ≡ 128)

-- the modulus is 8 or 128, and no packet that waits is too long
pub record Counts (modulus : ℕ) (packets : List Packet) : Type 0 where
  pub modulus_is : IsModulus modulus
  pub short : Each IsShort packets

abbrev pub IsCounting : Machine → Type 0
IsCounting m = Counts m.incoming.modulus m.outgoing.packets

-- a link stands for a machine that does so
pub record IsRunning (link : HeldLink) : Type 0 where
  pub machine : Machine
  pub stands : LinkStandsFor link machine
  pub counts : IsCounting machine

-- a frame in flight may be written
abbrev pub CanFly : InFlight → Type 0
CanFly f = CanWrite f.sent.modulus f.sent.frame

-- what holds of each side between two events
pub record IsSide (side : HeldSide) : Type 0 where
  pub link : IsRunning side.link
  pub frames : All CanFly side.towards.items

pub record AreSides (near far : HeldSide) : Type 0 where
  pub of_near : IsSide near
  pub of_far : IsSide far

-- the side stands for a side of a world
pub record StandsForSide (held : HeldSide) (side : Side) : Type 0 where
  pub link : LinkStandsFor held.link side.end.machine
  pub towards : held.towards.items ≡ all_in_flight side.towards

-- both sides stand for those of a world
pub record StandForBoth (near far : HeldSide) (w : World) : Type 0 where
  pub of_near : StandsForSide near w.a
  pub of_far : StandsForSide far w.b

-- a request as an event of an end, as it happens to the end, and as its link sees it
abbrev pub event_of : Request → End → Event
event_of ConnectRequest end = Connect end
event_of (SendRequest packet) end = Send end packet
event_of DisconnectRequest end = Disconnect end
event_of (TickRequest waiting) end = Tick end waiting
event_of (SeizeRequest last full) end = Seize end last full

abbrev pub happening_of : Request → Happening
happening_of ConnectRequest = Connects
happening_of (SendRequest packet) = Sends packet
happening_of DisconnectRequest = Disconnects
happening_of (TickRequest waiting) = Ticks waiting
happening_of (SeizeRequest last full) = Seizes last full

abbrev pub seen_of : Request → LinkEvent
seen_of ConnectRequest = LinkConnect
seen_of (SendRequest packet) = LinkSend packet
seen_of DisconnectRequest = LinkDisconnect
seen_of (TickRequest waiting) = LinkTick waiting
seen_of (SeizeRequest last full) = LinkSeize last full

-- a frame makes a link send SABM, SABME or DISC if it is read and the link then asks; one that is refused does not
abbrev pub hearing_asks : Machine → Option Frame → Bool
hearing_asks m None = false
hearing_asks m (Some frame) = link_asks m (LinkHear frame)

-- frames that a link sent, as they are in flight
abbrev pub flying : Bool → SentFrame → InFlight
flying on_ask sent = record { sent = sent; answers = on_ask && is_answer sent.frame.kind }

abbrev pub asking : List InFlight → ℕ
asking frames = count_by (λ (f : InFlight). asks f.sent.frame.kind) frames

abbrev pub answering : List InFlight → ℕ
answering frames = count_by (λ (f : InFlight). f.answers) frames

-- the channel is quiet for a SABM, SABME or DISC, if these are in flight to the other end and back
abbrev pub is_quiet_between : List InFlight → List InFlight → Bool
is_quiet_between ahead back = asking ahead + answering back == 0

abbrev pub world_fault_of : LinkFault → WorldFault
world_fault_of (WrongState state quit) = Link (WrongState state quit)
world_fault_of Full = Link Full
world_fault_of (TooLong len) = Link (TooLong len)
world_fault_of LinkMemory = Memory

-- the sides made the step of the world, and this was told
pub record MadeStep (event : Event) (w : World) (near far : HeldSide) (told : List Told) : Type 0 where
  pub stands : StandForBoth near far (near_step event w)
  pub tells : told ≡ (near_turn event w).told

-- the frames of an event went after those in flight
pub record Flew (done : Done) (on_ask : Bool) (ahead following : List InFlight) (told : List Told) : Type 0 where
  pub towards : following ≡ ahead ++ map (flying on_ask) done.frames
  pub tells : told ≡ done.told

-- at which event the world stops, by what that answered
abbrev pub stop_by : WorldFault → Option ℕ
stop_by NothingThere = None
stop_by (Link fault) = None
stop_by (NotQuiet index) = Some index
stop_by Memory = None

-- what an event is answered: its cause, if there is one; if there is none, at most that memory was not given
abbrev pub IsAnswered : {T : Type 0} → Option WorldFault → Result T WorldFault → Type 0
IsAnswered (Some fault) result = result ≡ Err fault
IsAnswered None result = IfErr result (λ fault. fault ≡ Memory)

-- a refusal changes nothing but the room for frames
pub record IsKept (near_old far_old near far : HeldSide) : Type 0 where
  pub near_link : near.link ≡ near_old.link
  pub far_link : far.link ≡ far_old.link
  pub near_towards : near.towards.items ≡ near_old.towards.items
  pub far_towards : far.towards.items ≡ far_old.towards.items

-- the same of the two sides of a world, in its own order
pub record MadeStepOf (event : Event) (w : World) (a b : HeldSide) (told : List Told) : Type 0 where
  pub stands : StandForBoth a b (step w event)
  pub tells : told ≡ told_by w event

-- at which event the world stops, by what an event answered
abbrev pub stop_of : {T : Type 0} → Result T WorldFault → Option ℕ
stop_of (Ok told) = None
stop_of (Err fault) = stop_by fault
