-- Hosts that want to be told when a frame of theirs has been sent (KISS command 12, ACKMODE, as BPQ32 and the XKISS
-- firmware have it): for each frame of the transmit queue the host that is told, if one is.
use Rattle.std.specs.Prelude.{ℕ, ◌==◌, if◌then◌else◌, Bool, true, false, List, [], ◌∷◌, ◌++◌, drop, map}
use Rattle.std.specs.Prelude.{Option, Some, None}
use Rattle.channel_access.specs.declared.air_tick.Sent.{Sent}
use Rattle.kiss_port.specs.Escapes.{fend, spelled}
use Rattle.kiss_port.specs.Items.{ack_command, kind_of}
use Rattle.station.specs.declared.asker.Asker.{Asker}
use Rattle.station.specs.declared.host_event.PortKind.{PortKind}
use Rattle.station.specs.declared.host_event.PortKind.TheVariants.{Kiss, Agw}
use Rattle.station.specs.declared.host_out.Piece.{Piece}
use Rattle.station.specs.Connections.{Connection, connection_of}

-- what a host is told: command 12 with the two octets by which it knows the frame
abbrev pub told_sent : List ℕ → List ℕ
told_sent mark = fend ∷ (spelled (kind_of 0 ack_command ∷ mark) ++ fend ∷ [])

abbrev pub is_kiss : PortKind → Bool
is_kiss Kiss = true
is_kiss Agw = false

abbrev pub connection_is_kiss : Option Connection → Bool
connection_is_kiss None = false
connection_is_kiss (Some connection) = is_kiss connection.kind

-- the connection of an id is there, and speaks KISS
abbrev pub speaks_kiss : ℕ → List Connection → Bool
speaks_kiss id connections = connection_is_kiss (connection_of id connections)

abbrev pub answer_of : Asker → Piece
answer_of asker = record { id = asker.id; octets = told_sent asker.mark }

abbrev pub pieces_for : Option Asker → List Connection → List Piece
pieces_for None connections = []
pieces_for (Some asker) connections = if speaks_kiss asker.id connections then answer_of asker ∷ [] else []

abbrev pub front_pieces : List (Option Asker) → List Connection → List Piece
front_pieces [] connections = []
front_pieces (asker ∷ others) connections = pieces_for asker connections

-- what is told when the front frame has been sent
abbrev pub sent_pieces : Option Sent → List (Option Asker) → List Connection → List Piece
sent_pieces None askers connections = []
sent_pieces (Some sent) askers connections = front_pieces askers connections

-- of the frames that wait then
abbrev pub askers_after : Option Sent → List (Option Asker) → List (Option Asker)
askers_after None askers = askers
askers_after (Some sent) askers = drop 1 askers

-- a connection that has left is told nothing
abbrev pub without_asker : ℕ → Option Asker → Option Asker
without_asker id None = None
without_asker id (Some asker) = if asker.id == id then None else Some asker

abbrev pub without_askers : ℕ → List (Option Asker) → List (Option Asker)
without_askers id askers = map (without_asker id) askers
