-- What a station stands for. Its links and its channel stand for those of the definitions, and each reader for all the
-- octets that came. A station that met want of memory stands for none.
use Rattle.std.specs.Prelude.{◌≡◌, ◌≢◌, ℕ, ◌<◌, true, false, is_some, List, length, AllPairs, Option, Some, None, IfSome}
use Rattle.std.specs.List.{AllZip}
use Rattle.agwpe_port.specs.Held.{StandsFor as AgwStandsFor}
use Rattle.channel_access.specs.StandsFor.{StandsFor as StandsForChannel}
use Rattle.kiss_port.specs.HeldHost.{HostStandsFor}
use Rattle.link_machine.specs.StandsFor.{StandsFor as StandsForMachine}
use Rattle.station.specs.declared.connection.Connection.{Connection as HeldConnection}
use Rattle.station.specs.declared.connection.Reader.{Reader}
use Rattle.station.specs.declared.connection.Reader.TheVariants.{KissReader, AgwReader}
use Rattle.station.specs.declared.host_event.PortKind.{PortKind}
use Rattle.station.specs.declared.host_event.PortKind.TheVariants.{Kiss, Agw}
use Rattle.station.specs.declared.owned_link.OwnedLink.{OwnedLink}
use Rattle.station.specs.Connections.{Connection}
use Rattle.station.specs.Links.{Link, Links, most_links, link_at}
use Rattle.station.specs.Held.{Held}
use Rattle.station.specs.HeldLinks.{HeldLinks}
use Rattle.station.specs.declared.parts.Parts.{Parts}
use Rattle.station.specs.Turn.{Out, Turn}
use Rattle.station.specs.State.{StationState}

-- a reader, and all octets that came to it
abbrev pub Reads : Reader → PortKind → List ℕ → Type 0
Reads (KissReader reader) Kiss stream = HostStandsFor reader stream
Reads (KissReader reader) Agw stream = ⊥
Reads (AgwReader reader) Kiss stream = ⊥
Reads (AgwReader reader) Agw stream = AgwStandsFor reader stream

pub record StandsForConnection (held : HeldConnection) (connection : Connection) : Type 0 where
  pub id : held.id ≡ connection.id
  pub came : held.came ≡ connection.came
  pub raw : held.raw ≡ connection.raw
  pub monitors : held.monitors ≡ connection.monitors
  pub reader : Reads held.reader connection.kind connection.stream

pub record StandsForLink (held : OwnedLink) (link : Link) : Type 0 where
  pub local : held.local ≡ link.local
  pub remote : held.remote ≡ link.remote
  pub owner : held.owner ≡ link.owner
  pub pid : held.pid ≡ link.pid
  pub machine : StandsForMachine held.machine link.machine

abbrev pub StandsForPlace : Option OwnedLink → Option Link → Type 0
StandsForPlace None None = Unit {0}
StandsForPlace None (Some link) = ⊥
StandsForPlace (Some held) None = ⊥
StandsForPlace (Some held) (Some link) = StandsForLink held link

-- two connections have two ids
abbrev pub HasOtherId : Connection → Connection → Type 0
HasOtherId a b = a.id ≢ b.id

-- the key that was freed last is the next one, and stays vacant until a link is made
pub record IsFreed (held : HeldLinks) (links : Links) (key : ℕ) : Type 0 where
  pub next : held.next ≡ key
  pub within : key < most_links
  pub vacant : link_at key links ≡ None

pub record StandsForLinks (held : HeldLinks) (links : Links) : Type 0 where
  pub places : AllZip StandsForPlace held.places links.places
  pub size : length links.places ≡ most_links
  pub freed : IfSome links.freed (IsFreed held links)
  -- if none was freed last, each key below the next one has a link
  pub least : links.freed ≡ None → (lower : ℕ) → lower < held.next → is_some (link_at lower links) ≡ true

pub record AreParts (parts : Parts) (s : StationState) : Type 0 where
  pub parameters : parts.parameters ≡ s.parameters
  pub digi : parts.digi ≡ s.digi
  pub paclen : parts.paclen ≡ s.paclen
  pub connections : AllZip StandsForConnection parts.connections.items s.connections
  pub ids : AllPairs HasOtherId s.connections
  pub registrations : parts.registrations.items ≡ s.registrations
  pub links : StandsForLinks parts.links s.links
  pub channel : StandsForChannel parts.channel s.channel
  pub askers : parts.askers.items ≡ s.askers
  pub owners : parts.owners.items ≡ s.owners
  pub heard : parts.heard.items ≡ s.heard
  pub dropped : parts.dropped ≡ s.dropped
  pub ticks : parts.ticks ≡ s.ticks
  pub asked : parts.asked ≡ s.asked

pub record StandsFor (held : Held) (s : StationState) : Type 0 where
  pub live : held.spent ≡ false
  pub parts : AreParts held.parts s

-- Every station that met no want of memory stands for one of the definitions.
abbrev pub StandsForSome : Held → Type 0
StandsForSome held = (s : StationState) × StandsFor held s

abbrev pub IsLive : Held → Type 0
IsLive held = held.spent ≡ false → StandsForSome held

-- the parts and what they gave so far stand for the turn
pub record Shows (parts : Parts) (out : Out) (turn : Turn) : Type 0 where
  pub holds : AreParts parts turn.now
  pub gave : out ≡ turn.out
