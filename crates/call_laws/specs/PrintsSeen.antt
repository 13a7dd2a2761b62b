-- The law of a call in what is seen at the partner's station: the packets that its host gave the link, set-up by
-- set-up.
use Rattle.std.specs.Prelude.{◌≡◌, ◌≢◌, ℕ, List, [], slice_get, Some}
use Rattle.agwpe_client.specs.CallRun.{CallPlan, printed_after}
use Rattle.link_world.specs.declared.end.End.{End}
use Rattle.link_world.specs.declared.end.End.TheVariants.{A, B}
use Rattle.link_world.specs.Origin.{origin}
use Rattle.link_world.specs.SetUps.{SetUp}
use Rattle.link_world.specs.Windows.{WindowsFit}
use Rattle.link_world.specs.World.{World, other, seen_from}
use Rattle.station.specs.declared.config.Config.{Config}
use Rattle.station_laws.specs.HeardInOrder.{AreHeardInOrder}
use Rattle.station_laws.specs.JointRun.{Step, new_stations, IsJointRun}
use Rattle.station_laws.specs.LinkOfCalls.{Pairs, IsQuietLink, world_of}
use Rattle.station_laws.specs.SetUpsSeen.{Seen, AllGivenWhileUp, set_ups_seen}
use Rattle.call_laws.specs.Client.{IsClientOf, IsBetweenCalls, calls_of, octets_had}
use Rattle.call_laws.specs.FirstPart.{IsFirstPart}
use Rattle.call_laws.specs.PrintsTold.{octets_of}

-- What was printed is a first part of the octets that were given in one of these set-ups: the origin of the set-up in
-- which the client's end got it.
pub record PrintsSeen (w : World) (seen : List Seen) (printed : List ℕ) : Type 0 where
  pub place : ℕ
  pub own : SetUp
  pub is_own : slice_get w.a.end.set_ups place ≡ Some own
  pub got : IsFirstPart printed (octets_of own.got)
  pub number : ℕ
  pub is_origin : origin own ≡ Some number
  pub giver : Seen
  pub is_there : slice_get seen number ≡ Some giver
  pub part : IsFirstPart printed (octets_of giver.given)

-- As the law of a call, if hosts give packets only while the link is up and takes them.
abbrev pub CallSeenLaw : Type 0
CallSeenLaw =
    (a b : Config) (seed_a seed_b : ℕ) (steps : List Step) (end : End) (plan : CallPlan) (pairs : Pairs)
    → let start = new_stations a seed_a b seed_b in let calls = calls_of end plan in
    IsJointRun start steps → AreHeardInOrder calls.a calls.b A steps pairs.at_a
    → AreHeardInOrder calls.b calls.a B steps pairs.at_b → WindowsFit a.params b.params → IsBetweenCalls plan
    → IsQuietLink calls pairs a.params b.params steps → AllGivenWhileUp calls steps → (id : ℕ) → IsClientOf id end steps
    → (stream : List ℕ) → IsFirstPart stream (octets_had id end steps) → printed_after plan stream ≢ []
    → PrintsSeen (seen_from end (world_of calls pairs a.params b.params steps)) (set_ups_seen calls (other end) steps)
    (printed_after plan stream)
