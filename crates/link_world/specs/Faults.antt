-- Which events are refused, and why: the first cause that holds.
use Rattle.std.specs.Prelude.{ℕ, nat_lt, Bool, true, false, if◌then◌else◌, length, Option, Some, None}
use Rattle.link_machine.specs.declared.fault.LinkFault.{LinkFault}
use Rattle.link_machine.specs.Machine.{Machine}
use Rattle.link_machine.specs.Event.Event.{Connect as LinkConnect, Send as LinkSend, Disconnect as LinkDisconnect}
use Rattle.link_machine.specs.Step.{refusal_of}
use Rattle.link_world.specs.declared.event.Event.{Event}
use Rattle.link_world.specs.declared.event.Event.TheVariants.{Connect, Send, Disconnect, Tick, Seize, Hear, Lose}
use Rattle.link_world.specs.declared.fault.WorldFault.{WorldFault}
use Rattle.link_world.specs.declared.fault.WorldFault.TheVariants.{NothingThere, Link, NotQuiet}
use Rattle.link_world.specs.World.{World, seen_from, end_of}
use Rattle.link_world.specs.Quiet.{sends_alone}

-- the frame that an event speaks of is in flight
abbrev pub is_there : Event → ℕ → Bool
is_there (Connect end) count = true
is_there (Send end packet) count = true
is_there (Disconnect end) count = true
is_there (Tick end waiting) count = true
is_there (Seize end last full) count = true
is_there (Hear end) count = nat_lt 0 count
is_there (Lose end index) count = nat_lt index count

-- why the link refuses a request
abbrev pub refused_by : Event → Machine → Option LinkFault
refused_by (Connect end) m = refusal_of m LinkConnect
refused_by (Send end packet) m = refusal_of m (LinkSend packet)
refused_by (Disconnect end) m = refusal_of m LinkDisconnect
refused_by (Tick end waiting) m = None
refused_by (Seize end last full) m = None
refused_by (Hear end) m = None
refused_by (Lose end index) m = None

-- the same at the end of the event
abbrev pub refused_at : Event → World → Option LinkFault
refused_at event w = refused_by event (seen_from (end_of event) w).a.end.machine

abbrev pub cause_by : Option LinkFault → Bool → ℕ → Option WorldFault
cause_by (Some fault) quiet number = Some (Link fault)
cause_by None true number = None
cause_by None false number = Some (NotQuiet number)

abbrev pub near_cause : ℕ → Event → World → Option WorldFault
near_cause number event w =
    if is_there event (length w.a.towards)
    then cause_by (refused_by event w.a.end.machine) (sends_alone w event) number else Some NothingThere

-- why the event with this number is refused in a world that has not stopped
abbrev pub cause : ℕ → World → Event → Option WorldFault
cause number w event = near_cause number event (seen_from (end_of event) w)

-- a world that has stopped at an event refuses every other as it refused that one
abbrev pub cause_in : Option ℕ → ℕ → World → Event → Option WorldFault
cause_in None number w event = cause number w event
cause_in (Some index) number w event = Some (NotQuiet index)
