-- The law on two stations of which only one calls, in the terms of their host programs: hosts of A alone connect and
-- disconnect, and no frame finds a transmit queue full.
use Rattle.std.specs.Prelude.{◌≡◌, ℕ, List, [], ◌∷◌}
use Rattle.link_world.specs.declared.end.End.TheVariants.{B}
use Rattle.link_world.specs.Windows.{WindowsFit}
use Rattle.station.specs.declared.config.Config.{Config}
use Rattle.station_laws.specs.HostsAsk.{StepAsksNothing}
use Rattle.station_laws.specs.InFlight.{Moment, steps_in, nothing_sent}
use Rattle.station_laws.specs.JointRun.{Step, Stations, new_stations, IsJointRun, all_stepped}
use Rattle.station_laws.specs.LinkInFlight.{AreMatchedFor, AreQuietFor}
use Rattle.station_laws.specs.LinkOfCalls.{Calls}
use Rattle.station_laws.specs.MatchedLaw.{pairs_in}
use Rattle.station_laws.specs.StationsLaw.{LinkKeepsOrder}

-- no host of B connects or disconnects, and none is closed
abbrev pub BAsksNothing : List Step → Type 0
BAsksNothing [] = Unit {0}
BAsksNothing (step ∷ steps) = (step.station ≡ B → StepAsksNothing step) × BAsksNothing steps

-- neither station has dropped a frame
pub record DroppedNothing (s : Stations) : Type 0 where
  pub a : s.a.dropped ≡ 0
  pub b : s.b.dropped ≡ 0

-- Over each joint run of two new stations whose windows fit, if each heard frame of a link is matched with one in
-- flight, and each SABM, SABME and DISC of it finds a quiet channel, the link keeps the order, if no host of B connects
-- or disconnects and no frame found a transmit queue full.
abbrev pub CallerLaw : Type 0
CallerLaw =
    (a b : Config) (seed_a seed_b : ℕ) (moments : List Moment) (calls : Calls)
    → let start = new_stations a seed_a b seed_b in let steps = steps_in moments in
    IsJointRun start steps → AreMatchedFor calls moments nothing_sent → AreQuietFor calls moments nothing_sent
    → WindowsFit a.params b.params → BAsksNothing steps → DroppedNothing (all_stepped steps start)
    → LinkKeepsOrder calls (pairs_in moments) a b steps (all_stepped steps start)
