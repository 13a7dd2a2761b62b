-- What contracts see of sockets: which ports were opened and dialed, what each poll asked and gave, and what each
-- connection was sent.
use Rattle.std.specs.Prelude.{⊤, ℕ, ◌<◌, ◌≤◌, ◌==◌, ◌≢◌, Bool, true, false, List, Option, length, All}
use Rattle.std.specs.List.{list_any}
use Rattle.station.specs.declared.host_event.HostEvent.{HostEvent}
use Rattle.station.specs.declared.host_event.HostEvent.TheVariants.{Joined, Bytes, Left}
use Rattle.host_ports.specs.declared.records.Dial.{Dial}
use Rattle.host_ports.specs.declared.records.Listen.{Listen}

-- a poll: how many milliseconds it waits, the ids that it pauses, and the events that it gives, of which one that
-- failed has none
pub record Poll : Type 0 where
  pub wait : ℕ
  pub paused : List ℕ
  pub events : List HostEvent

-- a send: the connection, how many polls there were before it, and how many octets it was offered and took
pub record Send : Type 0 where
  pub id : ℕ
  pub polls : ℕ
  pub offered : ℕ
  pub took : ℕ

-- what sockets tell, as far as they do, and how often a call of theirs has failed
pub record PortsTold : Type 0 where
  -- the ports of each listen that did not fail
  pub listens : Option (List Listen)
  -- the dials that did not fail
  pub dials : Option (List Dial)
  pub polls : Option (List Poll)
  -- the sends that did not fail
  pub sends : Option (List Send)
  -- the octets that the connection of an id was sent
  pub sent : ℕ → Option (List ℕ)
  -- whether the connection of an id came or was dialed, and was shut
  pub is_shut : ℕ → Option Bool
  pub faults : ℕ

-- the connection of an event
abbrev pub id_of : HostEvent → ℕ
id_of (Joined id kind) = id
id_of (Bytes id octets) = id
id_of (Left id) = id

-- the event is octets of the connection
abbrev pub is_octets_of : ℕ → HostEvent → Bool
is_octets_of id (Joined other kind) = false
is_octets_of id (Bytes other octets) = other == id
is_octets_of id (Left other) = false

-- the connection joins with this event
abbrev pub is_joining_of : ℕ → HostEvent → Bool
is_joining_of id (Joined other kind) = other == id
is_joining_of id (Bytes other octets) = false
is_joining_of id (Left other) = false

-- a piece of octets is not empty, and has at most 17, so that no more than one frame of a host ends in it
abbrev pub IsWholePiece : HostEvent → Type 0
IsWholePiece (Joined id kind) = ⊤
IsWholePiece (Bytes id octets) = (0 < length octets) × (length octets ≤ 17)
IsWholePiece (Left id) = ⊤

-- what a poll that pauses these ids may give: whole pieces, and no octets of a paused id
pub record MayCome (paused : List ℕ) (event : HostEvent) : Type 0 where
  pub piece : IsWholePiece event
  pub not_paused : All (λ id. is_octets_of id event ≢ true) paused

-- the connection came with one of these polls
abbrev pub has_come : ℕ → List Poll → Bool
has_come id polls = list_any (λ poll. list_any (is_joining_of id) poll.events) polls

-- the connection was opened by one of these dials
abbrev pub has_dialed : ℕ → List Dial → Bool
has_dialed id dials = list_any (λ dial. dial.id == id) dials
