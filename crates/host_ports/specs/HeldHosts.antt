-- What the code keeps of the hosts of a live station. Public clauses cite `StandsFor` and the field `spent` alone.
use Rattle.std.specs.Prelude.{◌≡◌, ℕ, ◌≤◌, ◌+◌, ◌*◌, ◌==◌, ◌||◌, ◌↔◌, Contains, IsTrue, Bool, true, false, List, []}
use Rattle.std.specs.Prelude.{◌++◌, length, All}
use Rattle.std.specs.List.{list_any}
use Rattle.station.specs.declared.host_event.HostEvent.{HostEvent}
use Rattle.station.specs.declared.host_event.HostEvent.TheVariants.{Joined, Bytes, Left}
use Rattle.station.specs.Held.{ids_of}
use Rattle.station.specs.StandsFor.{StandsFor as StandsForStation}
use Rattle.host_ports.specs.declared.host_parts.HostParts.{HostParts}
use Rattle.host_ports.specs.declared.report_line.ReportLine.{ReportLine}
use Rattle.host_ports.specs.Hosts.{Hosts, is_client_of, is_among, is_there, was_there}
use Rattle.host_ports.specs.HostTurns.{HasToWait}
use Rattle.host_ports.specs.SentSoFar.{IsOrderly}
use Rattle.host_ports.specs.IdRanges.{is_within}

pub record HeldHosts : Type 0 where
  pub parts : HostParts
  -- memory was wanted and not given
  pub spent : Bool

-- the parts stand for the hosts, of whose report these lines are printed
pub record AreParts (parts : HostParts) (printed : List ReportLine) (hosts : Hosts) : Type 0 where
  pub station : StandsForStation parts.station hosts.station
  pub came : (id : ℕ) → is_within id parts.came.items ≡ was_there id hosts
  pub clients : hosts.clients ≡ parts.clients.items
  pub untaken : hosts.untaken ≡ parts.untaken.items
  pub report : hosts.report ≡ printed ++ parts.report.items
  pub to_shut : hosts.to_shut ≡ parts.to_shut.items
  pub leaving : hosts.leaving ≡ parts.leaving.items

pub record StandsFor (held : HeldHosts) (printed : List ReportLine) (hosts : Hosts) : Type 0 where
  pub live : held.spent ≡ false
  pub parts : AreParts held.parts printed hosts
  pub orderly : IsOrderly hosts

-- the connection is there, or was shut and the station is not told yet that it left
abbrev pub is_named : ℕ → HostParts → Bool
is_named id parts = list_any (is_client_of id) parts.clients.items || is_among id parts.leaving.items

-- the station knows the connection
abbrev pub is_known : ℕ → HostParts → Bool
is_known id parts = is_among id (ids_of parts.station)

-- The station knows each connection that is there or leaves, and each that it knows has come. What it has not taken are
-- whole pieces.
pub record IsKnown (parts : HostParts) : Type 0 where
  pub known : (id : ℕ) → is_named id parts ≡ true → is_known id parts ≡ true
  pub came : (id : ℕ) → is_known id parts ≡ true → is_within id parts.came.items ≡ true
  pub pieces : All (λ one. length one.octets ≤ 17) parts.untaken.items

-- and it knows of all connections that were shut
pub record IsAtRest (parts : HostParts) : Type 0 where
  pub known : IsKnown parts
  pub nobody_leaves : parts.leaving.items ≡ []

-- ---- between two steps

-- whatever hosts the parts stand for, they stand for them changed so
abbrev pub Moves : (Hosts → Hosts) → HostParts → HostParts → Type 0
Moves change before after =
    (printed : List ReportLine) (hosts : Hosts) → AreParts before printed hosts → AreParts after printed (change hosts)

-- the same for a step that the definitions do not give as a function
abbrev pub MovesBy : (Hosts → Hosts → Type 0) → HostParts → HostParts → Type 0
MovesBy step before after =
    (printed : List ReportLine) (hosts : Hosts) → AreParts before printed hosts
    → (next : Hosts) × step hosts next × AreParts after printed next

-- how many steps are left at most in which the station is told of a connection that it left
abbrev pub weight : HostParts → ℕ
weight parts = 2 * length parts.clients.items + length parts.leaving.items

-- nobody is named anew, and nothing came
pub record Narrows (before after : HostParts) : Type 0 where
  pub station : after.station ≡ before.station
  pub came : after.came ≡ before.came
  pub named : (id : ℕ) → is_named id after ≡ true → is_named id before ≡ true
  pub pieces : All (λ one. length one.octets ≤ 17) before.untaken.items
      → All (λ one. length one.octets ≤ 17) after.untaken.items
  pub lighter : weight after ≤ weight before

-- the connection joins with this event
abbrev pub joins : ℕ → HostEvent → Bool
joins id (Joined other kind) = other == id
joins id (Bytes other octets) = false
joins id (Left other) = false

-- the connection leaves with this event
abbrev pub leaves : ℕ → HostEvent → Bool
leaves id (Joined other kind) = false
leaves id (Bytes other octets) = false
leaves id (Left other) = other == id

-- what is known before the station is told of an event: one that joins is there already, and one that leaves is not
pub record IsKnownBefore (event : HostEvent) (parts : HostParts) : Type 0 where
  pub known : (id : ℕ) → is_named id parts ≡ true → joins id event ≡ false → is_known id parts ≡ true
  pub came : (id : ℕ) → is_known id parts ≡ true → is_within id parts.came.items ≡ true
  pub joined : (id : ℕ) → joins id event ≡ true → is_within id parts.came.items ≡ true
  pub left : (id : ℕ) → leaves id event ≡ true → is_named id parts ≡ false
  pub pieces : All (λ one. length one.octets ≤ 17) parts.untaken.items

-- these are the connections whose octets have to wait
abbrev pub AreWaiting : List ℕ → Hosts → Type 0
AreWaiting ids hosts = (id : ℕ) → Contains ids id ↔ (IsTrue (is_there id hosts) × HasToWait id hosts)
