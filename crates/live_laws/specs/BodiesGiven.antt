-- The set-ups of a link have the octets that hosts gave it over D messages (AGWPE).
use Rattle.std.specs.Prelude.{◌≡◌, ℕ, List, All, map}
use Rattle.link_world.specs.declared.end.End.{End}
use Rattle.link_world.specs.declared.end.End.TheVariants.{A, B}
use Rattle.link_world.specs.SetUps.{SetUp}
use Rattle.link_world.specs.World.{seen_from}
use Rattle.station.specs.declared.config.Config.{Config}
use Rattle.station_laws.specs.HeardInOrder.{AreHeardInOrder}
use Rattle.station_laws.specs.JointRun.{Step, new_stations, IsJointRun}
use Rattle.station_laws.specs.LinkOfCalls.{Calls, Pairs, world_of}
use Rattle.call_laws.specs.PrintsTold.{octets_of}
use Rattle.live_laws.specs.HostActs.{acts_at}
use Rattle.live_laws.specs.HostGives.{IsBodyTaken, octets_given}

-- What was given in each set-up of an end is what the link took there of the bodies, in order; of each body it took a
-- first part, and all of it if it refused no packet of it.
pub record AreGiven (calls : Calls) (end : End) (steps : List Step) (set_ups : List SetUp) : Type 0 where
  pub octets : map (λ (q : SetUp). octets_of q.given) set_ups ≡ octets_given (acts_at calls end steps)
  pub bodies : All IsBodyTaken (acts_at calls end steps)

-- Over every joint run of two new stations in which the frames of the link are heard in order in both directions.
abbrev pub BodiesAreGiven : Type 0
BodiesAreGiven =
    (a b : Config) (seed_a seed_b : ℕ) (steps : List Step) (calls : Calls) (pairs : Pairs)
    → IsJointRun (new_stations a seed_a b seed_b) steps → AreHeardInOrder calls.a calls.b A steps pairs.at_a
    → AreHeardInOrder calls.b calls.a B steps pairs.at_b → (end : End)
    → AreGiven calls end steps (seen_from end (world_of calls pairs a.params b.params steps)).a.end.set_ups
