-- A joint run of two stations, A and B: the steps of both, in the order in which they are made. What a station hears is
-- a list of octets. Nothing is said here of how they come to it.
use Rattle.std.specs.Prelude.{◌≡◌, ℕ, ◌<◌, Bool, List, [], ◌∷◌, ◌++◌, All}
use Rattle.link_world.specs.declared.end.End.{End}
use Rattle.link_world.specs.declared.end.End.TheVariants.{A, B}
use Rattle.station.specs.declared.config.Config.{Config}
use Rattle.station.specs.declared.host_event.HostEvent.{HostEvent}
use Rattle.station.specs.Heard.{IsHeard}
use Rattle.station.specs.Host.{IsHostTurn}
use Rattle.station.specs.State.{StationState, new_station}
use Rattle.station.specs.Ticks.{IsTick}
use Rattle.station.specs.Turn.{Turn, begin}

-- what a step of a station takes
pub data Input : Type 0 where
  -- what comes from a host program
  FromHost : (event : HostEvent) → Input
  -- a frame that is heard
  OffAir : (octets : List ℕ) → Input
  -- a tick of 10 ms, and whether another station is heard
  OfClock : (busy : Bool) → Input

-- what it makes of that
abbrev pub IsTurn : Input → Turn → Turn → Type 0
IsTurn (FromHost event) before after = IsHostTurn event before after
IsTurn (OffAir octets) before after = IsHeard octets before after
IsTurn (OfClock busy) before after = IsTick busy before after

-- an octet has eight bits
abbrev pub HasOctets : Input → Type 0
HasOctets (FromHost event) = Unit {0}
HasOctets (OffAir octets) = All (λ octet. octet < 256) octets
HasOctets (OfClock busy) = Unit {0}

-- a step of one of the two stations, from the state that it had to the one that it has then
pub record Step : Type 0 where
  pub station : End
  pub input : Input
  pub before : StationState
  pub after : Turn
  pub turn : IsTurn input (begin before) after
  pub octets : HasOctets input

-- the states of both stations
pub record Stations : Type 0 where
  pub a : StationState
  pub b : StationState

abbrev pub new_stations : Config → ℕ → Config → ℕ → Stations
new_stations a seed_a b seed_b = record { a = new_station a seed_a; b = new_station b seed_b }

abbrev pub state_of : End → Stations → StationState
state_of A s = s.a
state_of B s = s.b

abbrev pub with_state : End → StationState → Stations → Stations
with_state A state s = record s { a = state }
with_state B state s = record s { b = state }

-- the states after a step
abbrev pub stepped : Step → Stations → Stations
stepped step s = with_state step.station step.after.now s

-- each step begins in the state that its station has then
abbrev pub IsJointRun : Stations → List Step → Type 0
IsJointRun s [] = Unit {0}
IsJointRun s (step ∷ steps) = (step.before ≡ state_of step.station s) × IsJointRun (stepped step s) steps

-- the states after all steps
abbrev pub all_stepped : List Step → Stations → Stations
all_stepped [] s = s
all_stepped (step ∷ steps) s = all_stepped steps (stepped step s)

-- what is made at one of the stations alone
abbrev pub at_end : {T : Type 0} → (end station : End) → List T → List T
at_end A A found = found
at_end A B found = []
at_end B A found = []
at_end B B found = found

-- the frames of links that joined the transmit queue of a station, in order
abbrev pub queued_at : End → List Step → List (List ℕ)
queued_at end [] = []
queued_at end (step ∷ steps) = at_end end step.station step.after.out.queued ++ queued_at end steps
