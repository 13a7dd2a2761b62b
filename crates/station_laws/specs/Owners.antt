-- What the owner of a link is sent for what the link tells: one AGWPE message each, in order, to its connection alone.
use Rattle.std.specs.Prelude.{◌≡◌, ℕ, List, [], ◌++◌, map, Option, Some, None}
use Rattle.ax25_address.specs.Callsign.{Callsign}
use Rattle.agwpe_port.specs.Messages.{spelling}
use Rattle.link_machine.specs.declared.acts.Told.{Told}
use Rattle.link_machine.specs.Event.{Event}
use Rattle.link_machine.specs.Step.{step}
use Rattle.station.specs.declared.host_out.Piece.{Piece}
use Rattle.station.specs.HostMessages.{message_of_told}
use Rattle.station.specs.LinkEvents.{event_at}
use Rattle.station.specs.Links.{Link, link_at}
use Rattle.station.specs.Turn.{Turn}

abbrev pub piece_of : ℕ → Callsign → Callsign → Told → Piece
piece_of id local remote told = record { id = id; octets = spelling (message_of_told local remote told) }

-- nobody is told if there is no owner
abbrev pub pieces_to : Option ℕ → Callsign → Callsign → List Told → List Piece
pieces_to None local remote told = []
pieces_to (Some id) local remote told = map (piece_of id local remote) told

-- In an event of a link its owner is sent what the link tells, and nobody is sent anything else.
abbrev pub OwnersAreTold : Type 0
OwnersAreTold =
    (key : ℕ) (event : Event) (link : Link) (turn : Turn) → link_at key turn.now.links ≡ Some link
    → (event_at key event turn).out.pieces
    ≡ turn.out.pieces ++ pieces_to link.owner link.local link.remote (step link.machine event).told
