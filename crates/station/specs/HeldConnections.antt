-- The connections as the code keeps them. No public clause cites this.
use Rattle.std.specs.Prelude.{◌≡◌, ℕ, ◌<◌, List, length, slice_index_or}
use Rattle.station.specs.declared.connection.Connection.{Connection}
use Rattle.station.specs.declared.connection.Reader.{Reader}
use Rattle.station.specs.declared.connection.Reader.TheVariants.{KissReader, AgwReader}
use Rattle.station.specs.declared.host_event.PortKind.{PortKind}
use Rattle.station.specs.declared.host_event.PortKind.TheVariants.{Kiss, Agw}

-- how a connection speaks
abbrev pub kind_of : Reader → PortKind
kind_of (KissReader reader) = Kiss
kind_of (AgwReader reader) = Agw

-- the connection of a place has an id
pub record HasIdAt (id place : ℕ) (connections : List Connection) : Type 0 where
  pub within : place < length connections
  pub same : (other : Connection) → (slice_index_or connections place other).id ≡ id
