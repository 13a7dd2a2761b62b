-- A worked run of two stations for which all holds that the law of two live runs asks of the steps of two live runs, and
-- of which it says something: both connections took octets that the other side's host gave.
use Rattle.std.specs.Prelude.{◌≡◌, ℕ, false, List, [], ◌∷◌, slice_get, Some}
use Rattle.ax25_address.specs.Callsign.{IsCall}
use Rattle.link_machine.specs.declared.state.LinkState.TheVariants.{Idle}
use Rattle.link_world.specs.declared.end.End.{End}
use Rattle.link_world.specs.declared.end.End.TheVariants.{A, B}
use Rattle.link_world.specs.Windows.{WindowsFit}
use Rattle.link_world.specs.World.{other}
use Rattle.station.specs.declared.config.Config.{Config}
use Rattle.station.specs.State.{new_station}
use Rattle.station_laws.specs.HeardInOrder.{AreHeardInOrder, HearsLinkFrame}
use Rattle.station_laws.specs.JointRun.{Step, queued_at}
use Rattle.station_laws.specs.LinkFrames.{is_from_to}
use Rattle.station_laws.specs.LinkOfCalls.{Calls, Pairs, IsQuietLink, call_at_end, is_named, world_of}
use Rattle.live_laws.specs.HostActs.{acts_at}
use Rattle.live_laws.specs.HostData.{octets_got}
use Rattle.live_laws.specs.HostGives.{octets_given}
use Rattle.live_laws.specs.LiveRuns.{AreInOneOrder, LiveRun, octets_taken}
use Rattle.live_laws.specs.Taken.{IsAgwpe, IsChain, IsTakenIn}

-- What is proved of each live run: its steps follow each other from a new station on, and what a connection took is a
-- first part of what they say to it.
pub record IsLikeLive (config : Config) (seed : ℕ) (run : LiveRun) : Type 0 where
  pub follow : IsChain (new_station config seed) run.steps
  pub takes : (id : ℕ) → IsTakenIn id run.steps (octets_taken id run)

-- Two runs and one order of their steps, with the link of two calls and the pairs of what is heard of it.
pub record Worked : Type 0 where
  pub config : Config
  pub a : LiveRun
  pub b : LiveRun
  pub steps : List Step
  pub calls : Calls
  pub pairs : Pairs

-- All that the law of two live runs asks of these.
pub record PremisesHold (w : Worked) : Type 0 where
  pub a : IsLikeLive w.config 1 w.a
  pub b : IsLikeLive w.config 2 w.b
  pub in_order : AreInOneOrder w.a w.b w.steps
  pub call_a : IsCall w.calls.a
  pub call_b : IsCall w.calls.b
  pub heard_a : AreHeardInOrder w.calls.a w.calls.b A w.steps w.pairs.at_a
  pub heard_b : AreHeardInOrder w.calls.b w.calls.a B w.steps w.pairs.at_b
  pub windows : WindowsFit w.config.params w.config.params
  pub quiet : IsQuietLink w.calls w.pairs w.config.params w.config.params w.steps
  pub agwpe_a : IsAgwpe 1 w.a.steps
  pub agwpe_b : IsAgwpe 1 w.b.steps

-- a connection got exactly what the partner's hosts gave the link, in one set-up, and that is some octets
pub record GetsAll (w : Worked) (end : End) (run : LiveRun) : Type 0 where
  pub octet : ℕ
  pub octets : List ℕ
  pub got : octets_got (call_at_end w.calls end) (call_at_end w.calls (other end)) (octets_taken 1 run)
      ≡ (octet ∷ octets) ∷ []
  pub given : octets_given (acts_at w.calls (other end) w.steps) ≡ (octet ∷ octets) ∷ []

-- a frame that a station queued is heard by nobody
pub record LosesOne (w : Worked) : Type 0 where
  pub number : ℕ
  pub octets : List ℕ
  pub queued : slice_get (queued_at A w.steps) number ≡ Some octets
  pub lost : is_named w.pairs.at_b number ≡ false

-- a link of B hears a frame that is none of the link
pub record HearsThird (w : Worked) : Type 0 where
  pub number : ℕ
  pub step : Step
  pub octets : List ℕ
  pub there : slice_get w.steps number ≡ Some step
  pub hears : HearsLinkFrame B step octets
  pub others : is_from_to w.calls.a w.calls.b octets ≡ false

-- both ends are idle again
abbrev pub IsOver : Worked → Type 0
IsOver w =
    let world = world_of w.calls w.pairs w.config.params w.config.params w.steps in
    (world.a.end.machine.control.state ≡ Idle) × (world.b.end.machine.control.state ≡ Idle)

-- There is such a run: a call, data both ways, a frame that is lost, a third station that calls one of the two, and the
-- end of the link.
pub record PremisesCanBeMet : Type 0 where
  pub worked : Worked
  pub hold : PremisesHold worked
  pub a : GetsAll worked A worked.a
  pub b : GetsAll worked B worked.b
  pub loses : LosesOne worked
  pub third : HearsThird worked
  pub over : IsOver worked
