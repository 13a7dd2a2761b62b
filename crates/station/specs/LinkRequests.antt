-- The events of a link as the code names them, and what it makes of a refusal. No public clause cites it.
use Rattle.std.specs.Prelude.{◌≡◌, [], Option, Some, None, Result, Ok, Err, IsErr}
use Rattle.tnc_base.specs.declared.fault.OutOfMemory.{OutOfMemory}
use Rattle.ax25_frames.specs.ControlField.{IsNumbered}
use Rattle.ax25_frames.specs.FrameOctets.{control_of}
use Rattle.ax25_frames.specs.declared.frame.Modulus.{Modulus}
use Rattle.ax25_frames.specs.declared.frame.Modulus.TheVariants.{Eight}
use Rattle.link_machine.specs.declared.fault.LinkFault.{LinkFault}
use Rattle.link_machine.specs.declared.fault.LinkFault.TheVariants.{WrongState, Full, TooLong, Memory}
use Rattle.link_machine.specs.Done.{Done}
use Rattle.link_machine.specs.Event.{Event}
use Rattle.link_machine.specs.Event.Event.{Connect, Send, Disconnect, Hear, Tick, Seize}
use Rattle.link_machine.specs.Machine.{modulus_named}
use Rattle.link_machine.specs.Step.{step}
use Rattle.station.specs.declared.link_event.LinkEvent.{LinkEvent}
use Rattle.station.specs.declared.owned_link.OwnedLink.{OwnedLink}
use Rattle.station.specs.declared.link_event.LinkEvent.TheVariants.{Connect as ConnectNow, Send as SendNow}
use Rattle.station.specs.declared.link_event.LinkEvent.TheVariants.{Disconnect as DisconnectNow, Hear as HearNow}
use Rattle.station.specs.declared.link_event.LinkEvent.TheVariants.{Tick as TickNow, Seize as SeizeNow}
use Rattle.station.specs.Links.{Link}

abbrev pub event_of : LinkEvent → Event
event_of ConnectNow = Connect
event_of (SendNow packet) = Send packet
event_of DisconnectNow = Disconnect
event_of (HearNow frame) = Hear frame
event_of (TickNow still) = Tick still
event_of (SeizeNow last full) = Seize last full

-- the modulus of the link at a place; 8 if there is none
abbrev pub held_modulus : Option OwnedLink → Modulus
held_modulus None = Eight
held_modulus (Some held) = modulus_named held.machine.incoming.modulus

-- a frame that is heard has numbers below the modulus of the link at its place
abbrev pub HasNumbers : LinkEvent → Option OwnedLink → Type 0
HasNumbers ConnectNow place = Unit {0}
HasNumbers (SendNow packet) place = Unit {0}
HasNumbers DisconnectNow place = Unit {0}
HasNumbers (HearNow frame) place = IsNumbered (held_modulus place) (control_of frame.kind)
HasNumbers (TickNow still) place = Unit {0}
HasNumbers (SeizeNow last full) place = Unit {0}

-- the link after its event
abbrev pub stepped_link : Event → Link → Link
stepped_link event link = record link { machine = (step link.machine event).now }

abbrev pub nothing_done : Done
nothing_done = record { frames = []; told = [] }

-- a refusal is nothing done, and want of memory stays
abbrev pub Passes : Result Done LinkFault → Result Done OutOfMemory → Type 0
Passes (Ok done) answer = answer ≡ Ok done
Passes (Err (WrongState state quit)) answer = answer ≡ Ok nothing_done
Passes (Err Full) answer = answer ≡ Ok nothing_done
Passes (Err (TooLong len)) answer = answer ≡ Ok nothing_done
Passes (Err Memory) answer = IsErr answer
