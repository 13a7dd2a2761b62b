-- The law of a call whose host is a station of a joint run: what it prints was given by the partner's host in one
-- set-up of the link.
use Rattle.std.specs.Prelude.{◌≡◌, ◌≢◌, ℕ, List, [], slice_get, Some}
use Rattle.agwpe_client.specs.CallRun.{CallPlan, printed_after}
use Rattle.link_world.specs.declared.end.End.{End}
use Rattle.link_world.specs.declared.end.End.TheVariants.{A, B}
use Rattle.link_world.specs.Origin.{origin}
use Rattle.link_world.specs.SetUps.{SetUp}
use Rattle.link_world.specs.Windows.{WindowsFit}
use Rattle.link_world.specs.World.{World, seen_from}
use Rattle.station.specs.declared.config.Config.{Config}
use Rattle.station_laws.specs.HeardInOrder.{AreHeardInOrder}
use Rattle.station_laws.specs.JointRun.{Step, new_stations, IsJointRun}
use Rattle.station_laws.specs.LinkOfCalls.{Pairs, IsQuietLink, world_of}
use Rattle.call_laws.specs.Client.{IsClientOf, IsBetweenCalls, calls_of, octets_had}
use Rattle.call_laws.specs.FirstPart.{IsFirstPart}
use Rattle.call_laws.specs.PrintsTold.{octets_of}

-- Of the link as the client's end sees it: a set-up of its own, in which it got what was printed, and the set-up of the
-- partner's end that is its origin. What was printed is a first part of the octets that the partner's host gave in
-- that.
pub record PrintsGiven (w : World) (printed : List ℕ) : Type 0 where
  pub place : ℕ
  pub own : SetUp
  pub is_own : slice_get w.a.end.set_ups place ≡ Some own
  pub got : IsFirstPart printed (octets_of own.got)
  pub number : ℕ
  pub is_origin : origin own ≡ Some number
  pub giver : SetUp
  pub is_there : slice_get w.b.end.set_ups number ≡ Some giver
  pub part : IsFirstPart printed (octets_of giver.given)

-- Over every joint run of two new stations, for a link whose frames are heard in order in both directions, whose
-- windows fit and whose channel is quiet: a client of one of the stations that calls the other and has taken a first
-- part of what its station has for it prints nothing, or what the partner's host gave in one set-up, whether the call
-- is done or not.
abbrev pub CallLaw : Type 0
CallLaw =
    (a b : Config) (seed_a seed_b : ℕ) (steps : List Step) (end : End) (plan : CallPlan) (pairs : Pairs)
    → let start = new_stations a seed_a b seed_b in let calls = calls_of end plan in
    IsJointRun start steps → AreHeardInOrder calls.a calls.b A steps pairs.at_a
    → AreHeardInOrder calls.b calls.a B steps pairs.at_b → WindowsFit a.params b.params → IsBetweenCalls plan
    → IsQuietLink calls pairs a.params b.params steps → (id : ℕ) → IsClientOf id end steps
    → (stream : List ℕ) → IsFirstPart stream (octets_had id end steps) → printed_after plan stream ≢ []
    → PrintsGiven (seen_from end (world_of calls pairs a.params b.params steps)) (printed_after plan stream)
