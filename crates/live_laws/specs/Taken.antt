-- What a connection of a live station takes in a run is a first part of what the station says to it, from when it joins
-- until it leaves or is shut.
use Rattle.std.specs.Prelude.{◌≡◌, ℕ, ◌≤◌, All, List, [], ◌∷◌, ◌++◌, length}
use Rattle.std.specs.List.{flat_map}
use Rattle.station.specs.declared.host_out.Piece.{Piece}
use Rattle.station.specs.State.{StationState}
use Rattle.station.specs.declared.host_event.HostEvent.TheVariants.{Joined, Bytes, Left}
use Rattle.station.specs.declared.host_event.PortKind.TheVariants.{Agw}
use Rattle.station_laws.specs.JointRun.{Input}
use Rattle.station_laws.specs.JointRun.Input.{FromHost, OffAir, OfClock}
use Rattle.call_laws.specs.Client.{Stays, pieces_for}
use Rattle.call_laws.specs.FirstPart.{IsFirstPart}
use Rattle.host_ports.specs.Waiting.{most_octets}
use Rattle.live_laws.specs.LiveSteps.{OwnStep}

-- the pieces that steps of a station give, in order
abbrev pub said : List OwnStep → List Piece
said steps = flat_map (λ (step : OwnStep). step.after.out.pieces) steps

-- the octets of pieces, one after another
abbrev pub octets_in : List Piece → List ℕ
octets_in pieces = flat_map (λ (piece : Piece). piece.octets) pieces

-- if the connection joins in a step, it joins by AGWPE
abbrev pub JoinsByAgwpe : ℕ → Input → Type 0
JoinsByAgwpe id (FromHost (Joined other kind)) = other ≡ id → kind ≡ Agw
JoinsByAgwpe id (FromHost (Bytes other octets)) = Unit {0}
JoinsByAgwpe id (FromHost (Left other)) = Unit {0}
JoinsByAgwpe id (OffAir octets) = Unit {0}
JoinsByAgwpe id (OfClock busy) = Unit {0}

abbrev pub JoinsInAgwpe : ℕ → OwnStep → Type 0
JoinsInAgwpe id step = JoinsByAgwpe id step.input

-- a connection of the AGWPE port
abbrev pub IsAgwpe : ℕ → List OwnStep → Type 0
IsAgwpe id steps = All (JoinsInAgwpe id) steps

-- it neither leaves in a step nor is closed
abbrev pub StaysIn : ℕ → OwnStep → Type 0
StaysIn id step = Stays id step.input step.after.out.closed

-- The pieces that the station appended for a connection are a first part of the pieces for it in some steps, one after
-- another. Up to the last of them it does not leave, and is not closed.
pub record AreSaidIn (id : ℕ) (steps : List OwnStep) (appended : List Piece) : Type 0 where
  pub earlier : List OwnStep
  pub there : List OwnStep
  pub later : List OwnStep
  pub parts : steps ≡ earlier ++ (there ++ later)
  pub stays : All (StaysIn id) (earlier ++ there)
  pub first : IsFirstPart (pieces_for id appended) (pieces_for id (said there))
  -- none of them has more octets than may wait
  pub short : All (λ (piece : Piece). length piece.octets ≤ most_octets) (pieces_for id appended)

-- What a connection took is a first part of the octets of such pieces.
pub record IsTakenIn (id : ℕ) (steps : List OwnStep) (taken : List ℕ) : Type 0 where
  pub appended : List Piece
  pub are_said : AreSaidIn id steps appended
  pub first : IsFirstPart taken (octets_in (pieces_for id appended))

-- ---- steps one after another

-- each begins in the state that the one before it left
abbrev pub IsChain : StationState → List OwnStep → Type 0
IsChain s [] = Unit {0}
IsChain s (step ∷ steps) = (step.before ≡ s) × IsChain step.after.now steps

abbrev pub state_after : StationState → List OwnStep → StationState
state_after s [] = s
state_after s (step ∷ steps) = state_after step.after.now steps
