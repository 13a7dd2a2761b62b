-- The connections of host programs, each by KISS (Chepponis and Karn) or by AGWPE (the AGWPE TCP/IP API tutorial,
-- SV2AGW), in the order in which they joined.
use Rattle.std.specs.Prelude.{ℕ, ◌==◌, Bool, false, not, if◌then◌else◌, List, [], map, filter, find, Option}
use Rattle.station.specs.declared.host_event.PortKind.{PortKind}

pub record Connection : Type 0 where
  pub id : ℕ
  pub kind : PortKind
  -- every octet that came from it
  pub stream : List ℕ
  -- how many ticks the station had made when octets came from it last (0 if none have)
  pub came : ℕ
  -- whether it is sent each frame that is heard (AGWPE, kind k)
  pub raw : Bool
  -- whether it is shown each frame that is heard and sent (AGWPE, kind m)
  pub monitors : Bool

-- the most connections at a time
abbrev pub most_connections : ℕ
most_connections = 64

-- a connection that joins
abbrev pub new_connection : ℕ → PortKind → Connection
new_connection id kind = record { id = id; kind = kind; stream = []; came = 0; raw = false; monitors = false }

-- the connection of an id
abbrev pub connection_of : ℕ → List Connection → Option Connection
connection_of id connections = find (λ connection. connection.id == id) connections

-- the connection of an id, changed
abbrev pub with_connection : ℕ → (Connection → Connection) → List Connection → List Connection
with_connection id change connections =
    map (λ connection. if connection.id == id then change connection else connection) connections

-- all others
abbrev pub without_connection : ℕ → List Connection → List Connection
without_connection id connections = filter (λ connection. not (connection.id == id)) connections

-- raw frames are turned on, or off again
abbrev pub turned_raw : Connection → Connection
turned_raw connection = record connection { raw = not connection.raw }

-- monitoring is turned on, or off again
abbrev pub turned_monitor : Connection → Connection
turned_monitor connection = record connection { monitors = not connection.monitors }
