-- What comes from a host program: it joins, its octets come, and it leaves.
use Rattle.std.specs.Prelude.{◌≡◌, ℕ, nat_lt, if◌then◌else◌, Bool, true, false, List, [], ◌∷◌, ◌++◌, length, drop}
use Rattle.std.specs.Prelude.{is_some, Option, Some, None}
use Rattle.agwpe_port.specs.declared.message.AgwMessage.{AgwMessage}
use Rattle.agwpe_port.specs.Messages.{messages_in, bad_length_in}
use Rattle.kiss_port.specs.declared.item.KissItem.{KissItem}
use Rattle.kiss_port.specs.WebRequests.{is_web_request, host_items}
use Rattle.station.specs.declared.host_event.HostEvent.{HostEvent}
use Rattle.station.specs.declared.host_event.HostEvent.TheVariants.{Joined, Bytes, Left}
use Rattle.station.specs.declared.host_event.PortKind.{PortKind}
use Rattle.station.specs.declared.host_event.PortKind.TheVariants.{Kiss, Agw}
use Rattle.station.specs.AgwRequests.{AreAnswered}
use Rattle.station.specs.Connections.{Connection, new_connection, connection_of, with_connection}
use Rattle.station.specs.Kiss.{heeding_all}
use Rattle.station.specs.Leaving.{leaving, shutting}
use Rattle.station.specs.Owners.{has_room, left_waiting}
use Rattle.station.specs.State.{StationState}
use Rattle.station.specs.Turn.{Turn, Act, changing, closing}

-- ---- it joins

abbrev pub with_host : ℕ → PortKind → StationState → StationState
with_host id kind s = record s { connections = s.connections ++ new_connection id kind ∷ [] }

-- there is room for one connection more
abbrev pub has_place : StationState → Bool
has_place s = has_room (length s.connections) (left_waiting s.connections s.owners)

-- one that would be the 65th is closed, and so is one for whose frames those of connections that have left leave no room
abbrev pub joining : ℕ → PortKind → Act
joining id kind turn =
    if has_place turn.now then changing (with_host id kind) turn else closing id turn

-- ---- its octets

-- octets come, when the station has made so many ticks
abbrev pub with_octets : ℕ → List ℕ → Connection → Connection
with_octets ticks octets connection = record connection { stream = connection.stream ++ octets; came = ticks }

abbrev pub taking : ℕ → List ℕ → Act
taking id octets =
    changing (λ s. record s { connections = with_connection id (with_octets s.ticks octets) s.connections })

-- the items that end in the octets after a stream
abbrev pub new_items : List ℕ → List ℕ → List KissItem
new_items stream octets = drop (length (host_items stream)) (host_items (stream ++ octets))

abbrev pub new_messages : List ℕ → List ℕ → List AgwMessage
new_messages stream octets = drop (length (messages_in stream)) (messages_in (stream ++ octets))

-- a connection that is to be read no further is closed and has left
abbrev pub ending : ℕ → Bool → Act
ending id false turn = turn
ending id true turn = shutting id turn

-- by KISS that is a request of the web, and by AGWPE one in which a header tells too long a body
abbrev pub AreTakenBy : PortKind → Connection → List ℕ → Turn → Turn → Type 0
AreTakenBy Kiss connection octets before after =
    after ≡ ending connection.id (is_web_request (connection.stream ++ octets))
    (heeding_all connection.id (new_items connection.stream octets) (taking connection.id octets before))
AreTakenBy Agw connection octets before after =
    (answered : Turn)
    × AreAnswered connection.id (new_messages connection.stream octets) (taking connection.id octets before) answered
    × (after ≡ ending connection.id (is_some (bad_length_in (connection.stream ++ octets))) answered)

-- the octets of a connection that is there
abbrev pub AreTaken : Option Connection → List ℕ → Turn → Turn → Type 0
AreTaken None octets before after = after ≡ before
AreTaken (Some connection) octets before after = AreTakenBy connection.kind connection octets before after

-- ---- each event

abbrev pub IsHostTurn : HostEvent → Turn → Turn → Type 0
IsHostTurn (Joined id kind) before after = after ≡ joining id kind before
IsHostTurn (Bytes id octets) before after = AreTaken (connection_of id before.now.connections) octets before after
IsHostTurn (Left id) before after = after ≡ leaving id before
