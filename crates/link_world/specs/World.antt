-- Two ends, and the frames in flight towards each in the order in which they were sent.
use Rattle.std.specs.Prelude.{ℕ, List, [], ◌∷◌, ◌++◌, drop, remove, Option, Some, None}
use Rattle.ax25_address.specs.Callsign.{Callsign}
use Rattle.ax25_address.specs.declared.path.Path.{Path}
use Rattle.ax25_address.specs.declared.path.Role.TheVariants.{Command}
use Rattle.link_machine.specs.declared.acts.Told.{Told}
use Rattle.link_machine.specs.declared.params.Params.{Params}
use Rattle.ax25_frames.specs.declared.frame.Frame.{Frame}
use Rattle.link_machine.specs.Machine.{new_machine, modulus_named}
use Rattle.link_world.specs.declared.end.End.{End}
use Rattle.link_world.specs.declared.end.End.TheVariants.{A, B}
use Rattle.link_world.specs.declared.event.Event.{Event}
use Rattle.link_world.specs.declared.event.Event.TheVariants.{Connect, Send, Disconnect, Tick, Seize, Hear, Lose}
use Rattle.link_world.specs.Reading.{frame_read}
use Rattle.link_world.specs.Flight.{Tagged}
use Rattle.link_world.specs.Recorded.{RecordedEnd, Happening, EndTurn, end_turn, no_turn}
use Rattle.link_world.specs.Recorded.Happening.{Connects, Sends, Disconnects, Ticks, Seizes, Hears}

-- an end, and the frames in flight towards it, the earliest first
pub record Side : Type 0 where
  pub end : RecordedEnd
  pub towards : List Tagged

pub record World : Type 0 where
  pub a : Side
  pub b : Side

-- the world as an end sees it: itself first
abbrev pub seen_from : End → World → World
seen_from A w = w
seen_from B w = record { a = w.b; b = w.a }

-- an idle link on a path, and nothing in flight
abbrev pub new_side : Path → Params → Side
new_side path params = record {
  end = record { machine = new_machine path params; set_ups = []; waiting = [] };
  towards = [];
}

-- a new world, whose links are on these paths
abbrev pub new_world : Path → Path → Params → Params → World
new_world to_b to_a a b = record { a = new_side to_b a; b = new_side to_a b }

abbrev pub end_of : Event → End
end_of (Connect end) = end
end_of (Send end packet) = end
end_of (Disconnect end) = end
end_of (Tick end waiting) = end
end_of (Seize end last full) = end
end_of (Hear end) = end
end_of (Lose end index) = end

-- a frame as a link in a modulus reads it, if it does not refuse it
abbrev pub read_in : ℕ → Tagged → Option Frame
read_in modulus f = frame_read (modulus_named f.modulus) (modulus_named modulus) f.frame

-- what is read is heard; a frame that is refused is no event of the end
abbrev pub hearing_as : Tagged → Option Frame → Option Happening
hearing_as tagged None = None
hearing_as tagged (Some frame) = Some (Hears (record tagged { frame = frame }))

-- the end hears the frame at the front, if there is one, in its own modulus
abbrev pub hearing_first : ℕ → List Tagged → Option Happening
hearing_first modulus [] = None
hearing_first modulus (tagged ∷ rest) = hearing_as tagged (read_in modulus tagged)

-- what an event is to its end, whose link has this modulus
abbrev pub happening : Event → ℕ → List Tagged → Option Happening
happening (Connect end) modulus towards = Some Connects
happening (Send end packet) modulus towards = Some (Sends packet)
happening (Disconnect end) modulus towards = Some Disconnects
happening (Tick end waiting) modulus towards = Some (Ticks waiting)
happening (Seize end last full) modulus towards = Some (Seizes last full)
happening (Hear end) modulus towards = hearing_first modulus towards
happening (Lose end index) modulus towards = None

-- the frames that stay in flight towards it
abbrev pub staying : Event → List Tagged → List Tagged
staying (Connect end) towards = towards
staying (Send end packet) towards = towards
staying (Disconnect end) towards = towards
staying (Tick end waiting) towards = towards
staying (Seize end last full) towards = towards
staying (Hear end) towards = drop 1 towards
staying (Lose end index) towards = remove towards index

abbrev pub turn_of : Option Happening → RecordedEnd → EndTurn
turn_of None r = no_turn r
turn_of (Some h) r = end_turn h r

-- what an event makes of its end, seen from there
abbrev pub near_turn : Event → World → EndTurn
near_turn event w = turn_of (happening event w.a.end.machine.incoming.modulus w.a.towards) w.a.end

-- the frames that are sent go after those in flight towards the other end
abbrev pub near_step : Event → World → World
near_step event w =
    let turn = near_turn event w in
    record {
      a = record { end = turn.now; towards = staying event w.a.towards };
      b = record w.b { towards = w.b.towards ++ turn.sent };
    }

-- the step of the world, and what its end is told
abbrev pub step : World → Event → World
step w event = seen_from (end_of event) (near_step event (seen_from (end_of event) w))

abbrev pub told_by : World → Event → List Told
told_by w event = (near_turn event (seen_from (end_of event) w)).told

-- the world after a list of events
abbrev pub run : World → List Event → World
run w [] = w
run w (event ∷ events) = run (step w event) events

-- the frames in flight towards an end
abbrev pub towards : End → World → List Tagged
towards end w = (seen_from end w).a.towards

-- the calls of the two ends: A and B
abbrev pub call_of : End → Callsign
call_of A = record { name = 65 ∷ []; ssid = 0 }
call_of B = record { name = 66 ∷ []; ssid = 0 }

abbrev pub other : End → End
other A = B
other B = A

-- from an end to the other, by no repeater
abbrev pub path_from : End → Path
path_from end = record {
  dest = call_of (other end);
  source = call_of end;
  repeaters = record { items = [] };
  role = Command;
}

-- a new world whose two ends are called A and B
abbrev pub first_world : Params → Params → World
first_world a b = new_world (path_from A) (path_from B) a b
