-- What hosts that monitor the channel are sent (AGWPE, kind m): each frame that is heard or sent, as one message.
use Rattle.std.specs.Prelude.{ℕ, Bool, List, [], ◌++◌, map, filter, Option, Some, None}
use Rattle.ax25_frames.specs.declared.frame.Frame.{Frame}
use Rattle.agwpe_port.specs.declared.message.AgwMessage.{AgwMessage}
use Rattle.agwpe_port.specs.CallField.{call_field}
use Rattle.agwpe_port.specs.Messages.{spelling}
use Rattle.frame_monitor.specs.MonitorText.{monitor_letter, monitor_text}
use Rattle.station.specs.declared.host_out.Piece.{Piece}
use Rattle.station.specs.Connections.{Connection}
use Rattle.station.specs.HostMessages.{to_host}
use Rattle.station.specs.Turn.{Act}

-- the message that shows a frame which was heard or sent after so many ticks
abbrev pub monitor_message : Bool → ℕ → Frame → AgwMessage
monitor_message sent ticks frame =
    to_host (monitor_letter sent frame.kind) 0 (call_field frame.path.source) (call_field frame.path.dest)
    (monitor_text ticks frame)

abbrev pub piece_for : List ℕ → Connection → Piece
piece_for octets connection = record { id = connection.id; octets = octets }

-- octets, once to each connection that monitors
abbrev pub to_monitors : List ℕ → List Connection → List Piece
to_monitors octets connections = map (piece_for octets) (filter (λ connection. connection.monitors) connections)

-- what cannot be read as a frame is not shown
abbrev pub monitor_pieces : Bool → ℕ → Option Frame → List Connection → List Piece
monitor_pieces sent ticks None connections = []
monitor_pieces sent ticks (Some frame) connections =
    to_monitors (spelling (monitor_message sent ticks frame)) connections

-- a frame is shown, heard or sent after so many ticks
abbrev pub monitoring : Bool → ℕ → Option Frame → Act
monitoring sent ticks frame turn =
    let pieces = monitor_pieces sent ticks frame turn.now.connections in
    record turn { out = record turn.out { pieces = turn.out.pieces ++ pieces } }
