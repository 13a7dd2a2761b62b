-- The law of two live runs: what connections of two stations get over a link, in octets over D messages, is what the
-- partner's hosts gave the link over D messages in one set-up, and the set-ups come in order.
use Rattle.std.specs.Prelude.{◌≡◌, ℕ, ◌<◌, Bool, true, false, List, [], ◌∷◌, All, AllPairs, filter, map, slice_get, Some}
use Rattle.ax25_address.specs.Callsign.{IsCall}
use Rattle.link_world.specs.declared.end.End.{End}
use Rattle.link_world.specs.declared.end.End.TheVariants.{A, B}
use Rattle.link_world.specs.Origin.{origin}
use Rattle.link_world.specs.SetUps.{SetUp}
use Rattle.link_world.specs.Windows.{WindowsFit}
use Rattle.link_world.specs.World.{other, seen_from}
use Rattle.sample_ring.specs.declared.got.Got.{Got}
use Rattle.station_laws.specs.HeardInOrder.{AreHeardInOrder}
use Rattle.station_laws.specs.JointRun.{Step}
use Rattle.station_laws.specs.LinkOfCalls.{Calls, Pairs, IsQuietLink, call_at_end, world_of}
use Rattle.tnc_ports.specs.declared.looping.LoopEnd.{LoopEnd}
use Rattle.tnc_ports.specs.declared.serve_words.ServeWords.{ServeWords}
use Rattle.tnc_ports.specs.SampledRun.{IsLooped, Outside}
use Rattle.call_laws.specs.FirstPart.{IsFirstPart}
use Rattle.live_laws.specs.HostActs.{HostAct, acts_at}
use Rattle.live_laws.specs.HostData.{octets_got}
use Rattle.live_laws.specs.HostGives.{IsBodyTaken, octets_given}
use Rattle.live_laws.specs.LiveRuns.{AreInOneOrder, LiveRun, octets_taken, run_of}
use Rattle.live_laws.specs.Taken.{IsAgwpe}

-- one of the set-ups that a connection was told of: the octets that it got, the place of the set-up among those of the
-- link, and the number of its origin
pub record Placed : Type 0 where
  pub got : List ℕ
  pub place : ℕ
  pub origin : ℕ

abbrev pub ComesBefore : Placed → Placed → Type 0
ComesBefore p q = (p.place < q.place) × (p.origin < q.origin)

-- A set-up of the connection's own end, and what the partner's hosts gave in the set-up that is its origin: what the
-- connection got is a first part of that.
pub record IsGotFrom (given : List (List ℕ)) (ours : List SetUp) (p : Placed) : Type 0 where
  pub own : SetUp
  pub is_own : slice_get ours p.place ≡ Some own
  pub is_origin : origin own ≡ Some p.origin
  pub theirs : List ℕ
  pub is_there : slice_get given p.origin ≡ Some theirs
  pub part : IsFirstPart p.got theirs

abbrev pub has_octets : List ℕ → Bool
has_octets [] = false
has_octets (octet ∷ octets) = true

-- The set-ups in which a connection got octets, in order: each is one of the link's, in their order, what it got comes
-- from the origin of that one, and origins rise.
pub record GetsInOrder (given : List (List ℕ)) (ours : List SetUp) (gots : List (List ℕ)) : Type 0 where
  pub placed : List Placed
  pub same : map (λ (p : Placed). p.got) placed ≡ filter has_octets gots
  pub each : All (IsGotFrom given ours) placed
  pub rise : AllPairs ComesBefore placed

-- So it is of the bodies that the partner's hosts gave the link, as far as the link took them.
pub record GetsWhatHostsGave (acts : List HostAct) (ours : List SetUp) (gots : List (List ℕ)) : Type 0 where
  pub gets : GetsInOrder (octets_given acts) ours gots
  pub bodies : All IsBodyTaken acts

-- the run of the station at an end
abbrev pub run_at : End → LiveRun → LiveRun → LiveRun
run_at A a b = a
run_at B a b = b

-- Of any two runs that serving describes, however they ended: take the steps of both stations in one order that keeps
-- each one's own. If the frames of the link of two calls that are heard were queued before by the other's links, and are
-- heard in order and once, if set-up frames find a quiet channel and the windows fit, then at either side what a
-- connection by AGWPE got in a set-up of the link is a first part of what the partner's hosts gave the link in the
-- origin, in octets over D messages, and origins rise.
abbrev pub LiveLaw : Type 0
LiveLaw =
    (words_a words_b : ServeWords) (loop_a loop_b : LoopEnd) (answers_a answers_b : List (List Got))
    (before_a after_a before_b after_b : Outside) (looped_a : IsLooped words_a loop_a answers_a before_a after_a)
    (looped_b : IsLooped words_b loop_b answers_b before_b after_b) (steps : List Step) (calls : Calls) (pairs : Pairs)
    → let run_a = run_of words_a loop_a answers_a before_a after_a looped_a in
    let run_b = run_of words_b loop_b answers_b before_b after_b looped_b in
    AreInOneOrder run_a run_b steps → IsCall calls.a → IsCall calls.b
    → AreHeardInOrder calls.a calls.b A steps pairs.at_a → AreHeardInOrder calls.b calls.a B steps pairs.at_b
    → WindowsFit words_a.config.params words_b.config.params
    → IsQuietLink calls pairs words_a.config.params words_b.config.params steps → (end : End) (id : ℕ)
    → IsAgwpe id (run_at end run_a run_b).steps
    → let w = seen_from end (world_of calls pairs words_a.config.params words_b.config.params steps) in
    GetsWhatHostsGave (acts_at calls (other end) steps) w.a.end.set_ups
    (octets_got (call_at_end calls end) (call_at_end calls (other end)) (octets_taken id (run_at end run_a run_b)))
