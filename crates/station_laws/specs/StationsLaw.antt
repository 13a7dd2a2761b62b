-- The law on any two stations.
use Rattle.std.specs.Prelude.{◌≡◌, ℕ, if◌then◌else◌, List, [], ◌∷◌, Option, Some, None}
use Rattle.link_machine.specs.Machine.{Machine}
use Rattle.link_machine.specs.declared.state.LinkState.TheVariants.{Idle}
use Rattle.link_world.specs.declared.end.End.TheVariants.{A, B}
use Rattle.link_world.specs.Changes.{ChangesAreValid}
use Rattle.link_world.specs.Origin.{GotInOrder}
use Rattle.link_world.specs.Windows.{WindowsFit}
use Rattle.station.specs.declared.config.Config.{Config}
use Rattle.station.specs.Links.{Link}
use Rattle.station_laws.specs.JointRun.{Step, Stations, new_stations, IsJointRun, all_stepped}
use Rattle.station_laws.specs.LinkSteps.{Choice}
use Rattle.station_laws.specs.HeardInOrder.{AreHeardInOrder}
use Rattle.station_laws.specs.LinkOfCalls.{Calls, Pairs, link_at_end, changes_of, first_world, world_of}
use Rattle.station_laws.specs.LinkOfCalls.{FollowsThrough, IsQuietLink}

-- the link that is meant, if the station has it: the first one that is chosen
abbrev pub first_chosen : Choice → List (Option Link) → Option Link
first_chosen chosen [] = None
first_chosen chosen (place ∷ places) = if chosen place then place else first_chosen chosen places

-- the end's machine is that of the station's link; it is idle if the station has none
abbrev pub IsMachineOf : Option Link → Machine → Type 0
IsMachineOf None machine = machine.control.state ≡ Idle
IsMachineOf (Some link) machine = machine ≡ link.machine

-- the two ends are those of the link at the two stations
pub record AreEndsOf (calls : Calls) (a b : Machine) (s : Stations) : Type 0 where
  pub at_a : IsMachineOf (first_chosen (link_at_end calls A) s.a.links.places) a
  pub at_b : IsMachineOf (first_chosen (link_at_end calls B) s.b.links.places) b

-- the two ends follow the link in each event of a run, and are its own after it
pub record EndsFollow (calls : Calls) (pairs : Pairs) (a b : Config) (steps : List Step) (now : Stations) : Type 0 where
  pub through : FollowsThrough calls pairs (record { a = 0; b = 0 }) steps (first_world calls a.params b.params)
  pub after : let w = world_of calls pairs a.params b.params steps in
      AreEndsOf calls w.a.end.machine w.b.end.machine now

-- what holds of the link of two calls after a joint run
pub record LinkKeepsOrder (calls : Calls) (pairs : Pairs) (a b : Config) (steps : List Step) (now : Stations)
    : Type 0 where
  -- in each set-up of an end, what was got is a prefix of what was given in its origin, and origins rise strictly
  pub got_a : let w = world_of calls pairs a.params b.params steps in GotInOrder w.a.end w.b.end
  pub got_b : let w = world_of calls pairs a.params b.params steps in GotInOrder w.b.end w.a.end
  -- no N(R) is invalid, so that neither link is reset by a number
  pub numbers : ChangesAreValid (first_world calls a.params b.params) (changes_of calls pairs steps)
  -- the ends are those of the link at the two stations
  pub ends : EndsFollow calls pairs a b steps now

-- Over every joint run of two new stations, if the frames of a link are heard in order in both directions, the two ends
-- of the link follow it, whether its channel is quiet or not.
abbrev pub FollowingLaw : Type 0
FollowingLaw =
    (a b : Config) (seed_a seed_b : ℕ) (steps : List Step) (calls : Calls) (pairs : Pairs)
    → let start = new_stations a seed_a b seed_b in
    IsJointRun start steps → AreHeardInOrder calls.a calls.b A steps pairs.at_a
    → AreHeardInOrder calls.b calls.a B steps pairs.at_b → EndsFollow calls pairs a b steps (all_stepped steps start)

-- Over every joint run of two new stations, each link whose frames are heard in order in both directions, whose windows
-- fit and whose channel is quiet keeps the order.
abbrev pub StationsLaw : Type 0
StationsLaw =
    (a b : Config) (seed_a seed_b : ℕ) (steps : List Step) (calls : Calls) (pairs : Pairs)
    → let start = new_stations a seed_a b seed_b in
    IsJointRun start steps → AreHeardInOrder calls.a calls.b A steps pairs.at_a
    → AreHeardInOrder calls.b calls.a B steps pairs.at_b → WindowsFit a.params b.params → IsQuietLink calls pairs a.params b.params steps
    → LinkKeepsOrder calls pairs a b steps (all_stepped steps start)
