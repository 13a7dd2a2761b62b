-- What the code keeps of a station. Public clauses cite `IsAdmitted`, `Takes`, `ids_of` and the field `spent` alone.
use Rattle.std.specs.Prelude.{◌≡◌, ◌≢◌, ℕ, ◌<◌, ◌≤◌, ◌==◌, Bool, not, List, [], ◌∷◌, ◌++◌, length, map, filter, All}
use Rattle.std.specs.Prelude.{Any, IfSome}
use Rattle.station.specs.declared.host_event.HostEvent.{HostEvent}
use Rattle.station.specs.declared.host_event.HostEvent.TheVariants.{Joined, Bytes, Left}
use Rattle.station.specs.declared.parts.Parts.{Parts}
use Rattle.station.specs.HasFew.{HasFew}
use Rattle.station.specs.Owners.{own_waiting, most_own}
use Rattle.station.specs.Turn.{Out}

pub record Held : Type 0 where
  pub parts : Parts
  -- memory was wanted and not given
  pub spent : Bool

-- the ids of the connections, in the order in which they joined
abbrev pub ids_in : Parts → List ℕ
ids_in parts = map (λ connection. connection.id) parts.connections.items

abbrev pub ids_of : Held → List ℕ
ids_of held = ids_in held.parts

-- the station takes octets of the connection
pub record Takes (id : ℕ) (held : Held) : Type 0 where
  pub frames : own_waiting id held.parts.owners.items < most_own
  pub links : All (λ place. IfSome place (HasFew id)) held.parts.links.places

-- the connection is there
abbrev pub IsThere : ℕ → Held → Type 0
IsThere id held = Any (λ other. other ≡ id) (ids_of held)

-- a connection joins under a new id, and its octets come, at most 4096 and if they are taken, until it leaves
abbrev pub IsAdmitted : HostEvent → Held → Type 0
IsAdmitted (Joined id kind) held = All (λ other. other ≢ id) (ids_of held)
IsAdmitted (Bytes id octets) held = IsThere id held × (length octets ≤ 4096) × Takes id held
IsAdmitted (Left id) held = IsThere id held

-- the ids after an event, of which these are closed
abbrev pub without_ids : List ℕ → List ℕ → List ℕ
without_ids [] ids = ids
without_ids (closed ∷ others) ids = without_ids others (filter (λ id. not (id == closed)) ids)

-- the ids of a list but those that are closed, if they were before
abbrev pub ClosesIds : Parts → Out → Parts → Out → Type 0
ClosesIds parts out now gave =
    (ids : List ℕ) → ids_in parts ≡ without_ids out.closed ids → ids_in now ≡ without_ids gave.closed ids

abbrev pub ids_after : HostEvent → List ℕ → List ℕ → List ℕ
ids_after (Joined id kind) closed ids = without_ids closed (ids ++ id ∷ [])
ids_after (Bytes id octets) closed ids = without_ids closed ids
ids_after (Left id) closed ids = without_ids (id ∷ []) ids

-- the id of a connection that joins is new
abbrev pub JoinsAnew : HostEvent → Parts → Type 0
JoinsAnew (Joined id kind) parts = All (λ other. other ≢ id) (ids_in parts)
JoinsAnew (Bytes id octets) parts = Unit {0}
JoinsAnew (Left id) parts = Unit {0}
