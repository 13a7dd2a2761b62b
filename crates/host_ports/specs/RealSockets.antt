-- The ids of the connections of the system's sockets.
use Rattle.std.specs.Prelude.{◌≡◌, ℕ, ◌+◌, ◌≤◌, List, [], ◌∷◌, ◌++◌, map}
use Rattle.std.specs.List.{flat_map, range_with_len}
use Rattle.station.specs.declared.host_event.HostEvent.{HostEvent}
use Rattle.station.specs.declared.host_event.HostEvent.TheVariants.{Joined, Bytes, Left}
use Rattle.station.specs.declared.host_event.PortKind.{PortKind}
use Rattle.host_ports.specs.declared.socket.Socket.{Socket}

-- the ids of the connections that are open, and the next id to be given
pub record OpenIds : Type 0 where
  pub ids : List ℕ
  pub next : ℕ

abbrev pub ids_of_sockets : List Socket → List ℕ
ids_of_sockets sockets = map (λ socket. socket.id) sockets

-- the ids rise from a least one on, and all are below the next
abbrev pub Rise : ℕ → List ℕ → ℕ → Type 0
Rise least [] next = least ≤ next
Rise least (id ∷ ids) next = (least ≤ id) × Rise (id + 1) ids next

-- the connection that joins with an event
abbrev pub joined_id : HostEvent → List ℕ
joined_id (Joined id kind) = id ∷ []
joined_id (Bytes id octets) = []
joined_id (Left id) = []

-- those that join with these events, in order
abbrev pub joined_ids : List HostEvent → List ℕ
joined_ids events = flat_map joined_id events

abbrev pub joining_as : PortKind → ℕ → HostEvent
joining_as kind id = Joined id kind

-- so many connections join, each of this kind, under the next ids
pub record Admits (kind : PortKind) (before after : List HostEvent) (next next' : ℕ) : Type 0 where
  pub count : ℕ
  pub more : after ≡ before ++ map (joining_as kind) (range_with_len next count)
  pub counted : next' ≡ next + count

-- the ids that join are the next ones, in order
pub record JoinNext (before after : List HostEvent) (next next' : ℕ) : Type 0 where
  pub count : ℕ
  pub ids : joined_ids after ≡ joined_ids before ++ range_with_len next count
  pub counted : next' ≡ next + count
