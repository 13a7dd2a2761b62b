-- The set-ups of a link at one of its stations, as a host program sees them: one begins when the link tells that it is
-- open. It has the packets that were given in it and those that were told of, in order.
use Rattle.std.specs.Prelude.{◌≡◌, ℕ, List, [], ◌∷◌, ◌++◌, All, fold, map, None}
use Rattle.selective_reject.specs.declared.packet.Packet.{Packet}
use Rattle.link_machine.specs.declared.acts.Told.{Told}
use Rattle.link_machine.specs.declared.acts.Told.TheVariants.{Opened, Given, Ended}
use Rattle.link_machine.specs.declared.state.LinkState.TheVariants.{Up}
use Rattle.link_machine.specs.Event.{Event as LinkEvent}
use Rattle.link_machine.specs.Event.Event.{Connect as LinkConnect, Send as LinkSend, Disconnect as LinkDisconnect}
use Rattle.link_machine.specs.Event.Event.{Hear as LinkHear, Seize as LinkSeize, Tick as LinkTick}
use Rattle.link_machine.specs.Machine.{Machine}
use Rattle.link_machine.specs.Step.{refusal_of, step as link_turn}
use Rattle.link_world.specs.declared.end.End.{End}
use Rattle.link_world.specs.declared.end.End.TheVariants.{A, B}
use Rattle.link_world.specs.SetUps.{SetUp}
use Rattle.station.specs.declared.config.Config.{Config}
use Rattle.station_laws.specs.HeardInOrder.{AreHeardInOrder}
use Rattle.station_laws.specs.JointRun.{Step, new_stations, IsJointRun, at_end}
use Rattle.station_laws.specs.LinkOfCalls.{Calls, Pairs, link_at_end, world_of}
use Rattle.station_laws.specs.LinkSteps.{LinkStep, steps_of}

-- what a host program gave in a set-up, and what it was given
pub record Seen : Type 0 where
  pub given : List Packet
  pub got : List Packet

-- the last one changes
abbrev pub last_seen_changed : (Seen → Seen) → Seen → List Seen → List Seen
last_seen_changed change q [] = change q ∷ []
last_seen_changed change q (next ∷ rest) = q ∷ last_seen_changed change next rest

abbrev pub change_last_seen : (Seen → Seen) → List Seen → List Seen
change_last_seen change [] = []
change_last_seen change (q ∷ rest) = last_seen_changed change q rest

-- a packet is given, and one is told of
abbrev pub with_given : Packet → Seen → Seen
with_given packet q = record q { given = q.given ++ packet ∷ [] }

abbrev pub with_got : Packet → Seen → Seen
with_got packet q = record q { got = q.got ++ packet ∷ [] }

-- what is given goes into the last set-up
abbrev pub seen_giving : LinkEvent → List Seen → List Seen
seen_giving LinkConnect seen = seen
seen_giving (LinkSend packet) seen = change_last_seen (with_given packet) seen
seen_giving LinkDisconnect seen = seen
seen_giving (LinkHear frame) seen = seen
seen_giving (LinkTick waiting) seen = seen
seen_giving (LinkSeize last full) seen = seen

-- and what is told of
abbrev pub seen_told : List Seen → Told → List Seen
seen_told seen (Opened ours) = seen ++ (record { given = []; got = [] }) ∷ []
seen_told seen (Given packet) = change_last_seen (with_got packet) seen
seen_told seen (Ended why) = seen

-- an event of the link
abbrev pub seen_by : LinkStep → List Seen → List Seen
seen_by step seen = fold seen_told (seen_giving step.event seen) (link_turn step.link.machine step.event).told

abbrev pub seen_by_all : List LinkStep → List Seen → List Seen
seen_by_all [] seen = seen
seen_by_all (step ∷ steps) seen = seen_by_all steps (seen_by step seen)

-- the events of the link at one of its stations
abbrev pub link_steps_at : Calls → End → List Step → List LinkStep
link_steps_at calls end [] = []
link_steps_at calls end (step ∷ steps) =
    at_end end step.station (steps_of (link_at_end calls step.station) step) ++ link_steps_at calls end steps

-- the set-ups that are seen there
abbrev pub set_ups_seen : Calls → End → List Step → List Seen
set_ups_seen calls end steps = seen_by_all (link_steps_at calls end steps) []

-- A host gives packets only while the link is up, and the link takes them.
abbrev pub IsGivenWhileUp : LinkEvent → Machine → Type 0
IsGivenWhileUp LinkConnect machine = Unit {0}
IsGivenWhileUp (LinkSend packet) machine =
    (machine.control.state ≡ Up) × (refusal_of machine (LinkSend packet) ≡ None)
IsGivenWhileUp LinkDisconnect machine = Unit {0}
IsGivenWhileUp (LinkHear frame) machine = Unit {0}
IsGivenWhileUp (LinkTick waiting) machine = Unit {0}
IsGivenWhileUp (LinkSeize last full) machine = Unit {0}

abbrev pub AllGivenWhileUp : Calls → List Step → Type 0
AllGivenWhileUp calls steps =
    (end : End) → All (λ (step : LinkStep). IsGivenWhileUp step.event step.link.machine) (link_steps_at calls end steps)

abbrev pub as_seen : SetUp → Seen
as_seen q = record { given = q.given; got = q.got }

-- both ends' set-ups are those that are seen at their stations
pub record AreSetUpsSeen (calls : Calls) (pairs : Pairs) (a b : Config) (steps : List Step) : Type 0 where
  pub at_a : let w = world_of calls pairs a.params b.params steps in
      map as_seen w.a.end.set_ups ≡ set_ups_seen calls A steps
  pub at_b : let w = world_of calls pairs a.params b.params steps in
      map as_seen w.b.end.set_ups ≡ set_ups_seen calls B steps

-- Over every joint run of two new stations in which the frames of the link are heard in order in both directions, if
-- packets are given only while the link is up, the set-ups of the link's two ends are those that are seen at the
-- stations: as many, each with the packets that were given in it and those that were told of.
abbrev pub SetUpsLaw : Type 0
SetUpsLaw =
    (a b : Config) (seed_a seed_b : ℕ) (steps : List Step) (calls : Calls) (pairs : Pairs)
    → let start = new_stations a seed_a b seed_b in
    IsJointRun start steps → AreHeardInOrder calls.a calls.b A steps pairs.at_a
    → AreHeardInOrder calls.b calls.a B steps pairs.at_b → AllGivenWhileUp calls steps → AreSetUpsSeen calls pairs a b steps
