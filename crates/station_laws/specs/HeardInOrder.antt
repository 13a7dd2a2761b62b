-- Frames of a link that are heard in the order in which they were sent, each once, and none that was not sent: one list
-- of pairs for each direction. What is heard of other links, or of other stations, does not matter.
use Rattle.std.specs.Prelude.{◌≡◌, ◌≢◌, ℕ, ◌<◌, List, [], map, take, drop, All, AllPairs, Contains, slice_get, Some}
use Rattle.std.specs.Prelude.{is_some, IsTrue}
use Rattle.ax25_address.specs.Callsign.{Callsign}
use Rattle.ax25_address.specs.FramePath.{BeginsWithPath, undone}
use Rattle.ax25_address.specs.declared.path.Path.{Path}
use Rattle.link_world.specs.declared.end.End.{End}
use Rattle.link_world.specs.World.{other}
use Rattle.station_laws.specs.JointRun.{Input, Step, queued_at}
use Rattle.station_laws.specs.JointRun.Input.{FromHost, OffAir, OfClock}
use Rattle.station_laws.specs.LinkFrames.{is_from_to}
use Rattle.station_laws.specs.LinkSteps.{steps_of}

-- a path whose repeaters have not yet repeated the frame
abbrev pub with_none_done : Path → Path
with_none_done path = record path { repeaters = record { items = map undone path.repeaters.items } }

-- Two frames in octets, equal but for the H bits of their repeaters: they begin with paths that are the same but for
-- them, and all else is the same. (The two reserved bits of a call are no part of a path, and may differ as well.)
pub record AreAlikeButForH (heard sent : List ℕ) : Type 0 where
  pub len : ℕ
  pub path_heard : Path
  pub path_sent : Path
  pub heard_begins : BeginsWithPath heard path_heard len
  pub sent_begins : BeginsWithPath sent path_sent len
  pub paths : with_none_done path_heard ≡ with_none_done path_sent
  pub rest : drop len heard ≡ drop len sent

-- a step of a run that hears a frame, and the frame of a link that it hears: both by their numbers, from 0
pub record Pair : Type 0 where
  pub heard : ℕ
  pub sent : ℕ

abbrev pub RiseBoth : Pair → Pair → Type 0
RiseBoth p q = (p.heard < q.heard) × (p.sent < q.sent)

abbrev pub IsOffAir : Input → List ℕ → Type 0
IsOffAir (FromHost event) octets = ⊥
IsOffAir (OffAir heard) octets = heard ≡ octets
IsOffAir (OfClock busy) octets = ⊥

-- the step hears these octets at an end, as an event of one of its links
pub record HearsLinkFrame (hearer : End) (step : Step) (octets : List ℕ) : Type 0 where
  pub station : step.station ≡ hearer
  pub input : IsOffAir step.input octets
  pub event : steps_of is_some step ≢ []

-- The step hears a frame of the link of two calls, of which this end has the first: its address field has the two
-- calls, it waits for no repeater, and it can be read, so that the link hears it.
pub record HearsFrameOf (local remote : Callsign) (hearer : End) (step : Step) (octets : List ℕ) : Type 0 where
  pub link : HearsLinkFrame hearer step octets
  pub calls : IsTrue (is_from_to remote local octets)

-- the frame of a pair is heard as an event of a link, and joined the other station's queue before
pub record IsHeardPair (hearer : End) (steps : List Step) (p : Pair) : Type 0 where
  pub step : Step
  pub octets : List ℕ
  pub queued : List ℕ
  pub there : slice_get steps p.heard ≡ Some step
  pub hears : HearsLinkFrame hearer step octets
  pub before : slice_get (queued_at (other hearer) (take p.heard steps)) p.sent ≡ Some queued
  pub alike : AreAlikeButForH octets queued

-- the step with a number has its pair
pub record HasPair (pairs : List Pair) (heard : ℕ) : Type 0 where
  pub pair : Pair
  pub contains : Contains pairs pair
  pub is : pair.heard ≡ heard

-- All that the link of two calls hears at an end, of which this end has the first call, was sent before, and is heard
-- in order and once. Pairs of frames of other links may be in the list; none has to be.
pub record AreHeardInOrder (local remote : Callsign) (hearer : End) (steps : List Step) (pairs : List Pair)
    : Type 0 where
  pub rise : AllPairs RiseBoth pairs
  pub each : All (IsHeardPair hearer steps) pairs
  pub all : (number : ℕ) (step : Step) (octets : List ℕ) → slice_get steps number ≡ Some step
      → HearsFrameOf local remote hearer step octets → HasPair pairs number
