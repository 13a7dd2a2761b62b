-- The link of two calls in a joint run, as a world of two ends. What a station did to it happens to its end. Of the
-- frames that an event sends those are in flight that some pair names, from the event until they are heard; the others
-- were sent and lost, also those that found the transmit queue full. So what is in flight is what was sent and is still
-- to be heard.
use Rattle.std.specs.Prelude.{◌≡◌, ℕ, ◌+◌, ◌==◌, Bool, List, [], ◌∷◌, ◌++◌, length, map, Option, Some, None}
use Rattle.std.specs.List.{range_with_len, list_any}
use Rattle.ax25_address.specs.Callsign.{Callsign}
use Rattle.ax25_address.specs.declared.path.Path.{Path}
use Rattle.ax25_address.specs.declared.path.Role.TheVariants.{Command}
use Rattle.link_machine.specs.Event.{Event as LinkEvent}
use Rattle.link_machine.specs.Event.Event.{Connect as LinkConnect, Send as LinkSend, Disconnect as LinkDisconnect}
use Rattle.link_machine.specs.Event.Event.{Hear as LinkHear, Seize as LinkSeize, Tick as LinkTick}
use Rattle.link_machine.specs.Step.{step as link_turn}
use Rattle.link_machine.specs.declared.params.Params.{Params}
use Rattle.link_world.specs.declared.end.End.{End}
use Rattle.link_world.specs.declared.end.End.TheVariants.{A, B}
use Rattle.link_world.specs.declared.event.Event.{Event}
use Rattle.link_world.specs.declared.event.Event.TheVariants.{Connect, Send, Disconnect, Seize, Tick, Hear}
use Rattle.link_world.specs.Changes.{Change, run_changes, AreQuiet}
use Rattle.link_world.specs.Changes.Change.{Makes, Keeps}
use Rattle.link_world.specs.World.{World, new_world, near_turn, seen_from, other}
use Rattle.station.specs.Links.{is_between}
use Rattle.station_laws.specs.JointRun.{Step}
use Rattle.station_laws.specs.LinkSteps.{LinkStep, Choice, steps_of}
use Rattle.station_laws.specs.HeardInOrder.{Pair}

-- the calls that the link has at A and at B
pub record Calls : Type 0 where
  pub a : Callsign
  pub b : Callsign

-- the call at each station
abbrev pub call_at_end : Calls → End → Callsign
call_at_end calls A = calls.a
call_at_end calls B = calls.b

-- the link at each station
abbrev pub link_at_end : Calls → End → Choice
link_at_end calls A = is_between calls.a calls.b
link_at_end calls B = is_between calls.b calls.a

-- the pairs of both directions: what A's links hear, and what B's do
pub record Pairs : Type 0 where
  pub at_a : List Pair
  pub at_b : List Pair

-- the pairs of what is heard at an end
abbrev pub heard_at : End → Pairs → List Pair
heard_at A pairs = pairs.at_a
heard_at B pairs = pairs.at_b

-- a frame that a pair names
abbrev pub is_named : List Pair → ℕ → Bool
is_named pairs number = list_any (λ (p : Pair). p.sent == number) pairs

-- so many frames, from a number on, each marked if a pair names it
abbrev pub marks_from : List Pair → ℕ → ℕ → List Bool
marks_from pairs first count = map (λ k. is_named pairs (first + k)) (range_with_len 0 count)

-- an event of the link at an end
abbrev pub event_at_end : End → LinkEvent → Event
event_at_end end LinkConnect = Connect end
event_at_end end (LinkSend packet) = Send end packet
event_at_end end LinkDisconnect = Disconnect end
event_at_end end (LinkHear frame) = Hear end
event_at_end end (LinkTick waiting) = Tick end waiting
event_at_end end (LinkSeize last full) = Seize end last full

abbrev pub makes : End → Option Path → List Change
makes end None = []
makes end (Some path) = Makes end path ∷ []

-- what happens to an end, when so many frames of the station's links were queued before the step
abbrev pub changes_by : End → Pairs → ℕ → LinkStep → List Change
changes_by end pairs earlier step =
    makes end step.anew
    ++ Keeps (event_at_end end step.event) (marks_from (heard_at (other end) pairs) (earlier + step.first) step.joined)
    ∷ []

abbrev pub all_changes_by : End → Pairs → ℕ → List LinkStep → List Change
all_changes_by end pairs earlier [] = []
all_changes_by end pairs earlier (step ∷ steps) =
    changes_by end pairs earlier step ++ all_changes_by end pairs earlier steps

-- how many frames of links each station has queued
pub record Counts : Type 0 where
  pub a : ℕ
  pub b : ℕ

abbrev pub count_at : End → Counts → ℕ
count_at A counts = counts.a
count_at B counts = counts.b

abbrev pub with_more : End → ℕ → Counts → Counts
with_more A more counts = record counts { a = counts.a + more }
with_more B more counts = record counts { b = counts.b + more }

-- all that happens to the two ends
abbrev pub changes_from : Calls → Pairs → Counts → List Step → List Change
changes_from calls pairs counts [] = []
changes_from calls pairs counts (step ∷ steps) =
    all_changes_by step.station pairs (count_at step.station counts) (steps_of (link_at_end calls step.station) step)
    ++ changes_from calls pairs (with_more step.station (length step.after.out.queued) counts) steps

abbrev pub changes_of : Calls → Pairs → List Step → List Change
changes_of calls pairs steps = changes_from calls pairs (record { a = 0; b = 0 }) steps

-- a path that no link has had yet
abbrev pub path_between : Callsign → Callsign → Path
path_between local remote =
    record { dest = remote; source = local; repeaters = record { items = [] }; role = Command }

-- both ends idle, and nothing in flight
abbrev pub first_world : Calls → Params → Params → World
first_world calls a b = new_world (path_between calls.a calls.b) (path_between calls.b calls.a) a b

-- The two ends after the run, each with its record: the set-ups of the link with the packets that the host programs
-- gave in each, and those that its owner was told of.
abbrev pub world_of : Calls → Pairs → Params → Params → List Step → World
world_of calls pairs a b steps = run_changes (first_world calls a b) (changes_of calls pairs steps)

-- An end follows the link of its station: an event finds it with the link's machine, and it is told what the link tells
-- its owner.
pub record Follows (end : End) (step : LinkStep) (w : World) : Type 0 where
  pub machine : (seen_from end w).a.end.machine ≡ step.link.machine
  pub told : (near_turn (event_at_end end step.event) (seen_from end w)).told
      ≡ (link_turn step.link.machine step.event).told

-- in each event
abbrev pub FollowsAll : End → Pairs → ℕ → List LinkStep → World → Type 0
FollowsAll end pairs earlier [] w = Unit {0}
FollowsAll end pairs earlier (step ∷ steps) w =
    Follows end step (run_changes w (makes end step.anew))
    × FollowsAll end pairs earlier steps (run_changes w (changes_by end pairs earlier step))

-- in each step of a run
abbrev pub FollowsThrough : Calls → Pairs → Counts → List Step → World → Type 0
FollowsThrough calls pairs counts [] w = Unit {0}
FollowsThrough calls pairs counts (step ∷ steps) w =
    let made = steps_of (link_at_end calls step.station) step in
    let earlier = count_at step.station counts in
    FollowsAll step.station pairs earlier made w
    × FollowsThrough calls pairs (with_more step.station (length step.after.out.queued) counts) steps
    (run_changes w (all_changes_by step.station pairs earlier made))

-- Each SABM, SABME and DISC of the link enters a quiet channel, and an idle end hears SABM or SABME only if none of its
-- own is in flight. One that is dropped or lost was sent, and counts.
abbrev pub IsQuietLink : Calls → Pairs → Params → Params → List Step → Type 0
IsQuietLink calls pairs a b steps = AreQuiet (first_world calls a b) (changes_of calls pairs steps)
