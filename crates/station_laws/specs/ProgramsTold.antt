-- What a host program is told of its links in a step: the connections that open and the data, one AGWPE message each,
-- in the order of the events.
use Rattle.std.specs.Prelude.{◌≡◌, ℕ, ◌==◌, ◌||◌, ◌&&◌, Bool, All, List, filter, flat_map, slice_index, is_some}
use Rattle.link_machine.specs.Step.{step as link_turn}
use Rattle.station.specs.declared.host_event.PortKind.TheVariants.{Agw}
use Rattle.station.specs.declared.host_out.Piece.{Piece}
use Rattle.station.specs.AgwKinds.{connect_kind, data_kind}
use Rattle.station.specs.Connections.{Connection}
use Rattle.station.specs.State.{StationState}
use Rattle.station_laws.specs.JointRun.{Step}
use Rattle.station_laws.specs.LinkSteps.{LinkStep, steps_of}
use Rattle.station_laws.specs.Owners.{pieces_to}

-- the kind of a message in octets
abbrev pub kind_of : List ℕ → ℕ
kind_of octets = slice_index octets 4

-- C and D to a connection
abbrev pub is_of_link : ℕ → Piece → Bool
is_of_link id piece =
    (piece.id == id) && ((kind_of piece.octets == connect_kind) || (kind_of piece.octets == data_kind))

abbrev pub of_links : ℕ → List Piece → List Piece
of_links id pieces = filter (is_of_link id) pieces

-- what the event of a link tells a connection, which is its owner
abbrev pub told_by : ℕ → LinkStep → List Piece
told_by id step =
    of_links id (pieces_to step.link.owner step.link.local step.link.remote
    (link_turn step.link.machine step.event).told)

-- a connection of that id speaks AGWPE
abbrev pub SpeaksAgwpe : ℕ → StationState → Type 0
SpeaksAgwpe id s = All (λ (c : Connection). c.id ≡ id → c.kind ≡ Agw) s.connections

-- Each C and D that a connection is sent in a step is told by an event of a link, in the same order.
abbrev pub ProgramsAreTold : Type 0
ProgramsAreTold =
    (step : Step) (id : ℕ) → SpeaksAgwpe id step.before
    → of_links id step.after.out.pieces ≡ flat_map (told_by id) (steps_of is_some step)
