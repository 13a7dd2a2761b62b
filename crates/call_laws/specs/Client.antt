-- A client of a station of a joint run, and what the station has for it.
use Rattle.std.specs.Prelude.{◌≡◌, ◌≢◌, ℕ, ◌<◌, ◌==◌, All, List, [], ◌∷◌, ◌++◌, length, filter}
use Rattle.std.specs.List.{flat_map}
use Rattle.ax25_address.specs.Callsign.{IsCall}
use Rattle.agwpe_client.specs.CallRun.{CallPlan}
use Rattle.link_world.specs.declared.end.End.{End}
use Rattle.link_world.specs.declared.end.End.TheVariants.{A, B}
use Rattle.station.specs.declared.host_event.HostEvent.TheVariants.{Joined, Bytes, Left}
use Rattle.station.specs.declared.host_out.Piece.{Piece}
use Rattle.station_laws.specs.JointRun.{Input, Step, at_end}
use Rattle.station_laws.specs.JointRun.Input.{FromHost, OffAir, OfClock}
use Rattle.station_laws.specs.LinkOfCalls.{Calls}
use Rattle.station_laws.specs.ProgramsTold.{SpeaksAgwpe}

-- ---- what a station has for a connection

-- the pieces that the steps of a station give, in order
abbrev pub pieces_at : End → List Step → List Piece
pieces_at end [] = []
pieces_at end (step ∷ steps) = at_end end step.station step.after.out.pieces ++ pieces_at end steps

-- those for a connection
abbrev pub pieces_for : ℕ → List Piece → List Piece
pieces_for id pieces = filter (λ (piece : Piece). piece.id == id) pieces

-- the octets that a station has for a connection
abbrev pub octets_had : ℕ → End → List Step → List ℕ
octets_had id end steps = flat_map (λ (piece : Piece). piece.octets) (pieces_for id (pieces_at end steps))

-- ---- its connection

-- The connection neither leaves nor is closed: for what it sends, or since a call of it passes to another one.
abbrev pub Stays : ℕ → Input → List ℕ → Type 0
Stays id (FromHost (Joined other kind)) closed = Unit {0}
Stays id (FromHost (Bytes other octets)) closed = All (λ n. n ≢ id) closed
Stays id (FromHost (Left other)) closed = other ≢ id
Stays id (OffAir octets) closed = Unit {0}
Stays id (OfClock busy) closed = Unit {0}

pub record IsClientStep (id : ℕ) (step : Step) : Type 0 where
  pub speaks : SpeaksAgwpe id step.before
  pub stays : Stays id step.input step.after.out.closed

-- A connection of the station that speaks AGWPE, through a run in which it does not leave. No piece for it has 2^32
-- octets: a header tells no more.
pub record IsClientOf (id : ℕ) (end : End) (steps : List Step) : Type 0 where
  pub each : All (λ (step : Step). step.station ≡ end → IsClientStep id step) steps
  pub short : All (λ (piece : Piece). length piece.octets < 0x100000000) (pieces_for id (pieces_at end steps))

-- ---- its call

-- a plan of a call from one call to another
pub record IsBetweenCalls (plan : CallPlan) : Type 0 where
  pub own : IsCall plan.own
  pub remote : IsCall plan.remote

-- the calls of the link, if the client is at this end
abbrev pub calls_of : End → CallPlan → Calls
calls_of A plan = record { a = plan.own; b = plan.remote }
calls_of B plan = record { a = plan.remote; b = plan.own }
