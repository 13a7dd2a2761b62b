-- What a reader makes of octets. No public clause cites this.
use Rattle.std.specs.Prelude.{◌≡◌, ℕ, Bool, List, ◌++◌, is_some, Option, Some, None}
use Rattle.agwpe_port.specs.declared.message.AgwMessage.{AgwMessage}
use Rattle.agwpe_port.specs.Messages.{bad_length_in}
use Rattle.kiss_port.specs.WebRequests.{is_web_request}
use Rattle.kiss_port.specs.declared.item.KissItem.{KissItem}
use Rattle.station.specs.Connections.{Connection}
use Rattle.station.specs.Host.{new_items, new_messages}
use Rattle.station.specs.declared.host_event.PortKind.{PortKind}
use Rattle.station.specs.declared.host_event.PortKind.TheVariants.{Kiss, Agw}
use Rattle.station.specs.declared.reading.Said.{Said}
use Rattle.station.specs.declared.reading.Said.TheVariants.{Items, Messages}

-- items, and whether it is a request of the web, if a connection speaks by KISS
abbrev pub SaysItems : PortKind → List ℕ → List ℕ → List KissItem → Bool → Type 0
SaysItems Kiss stream octets items web =
    (items ≡ new_items stream octets) × (web ≡ is_web_request (stream ++ octets))
SaysItems Agw stream octets items web = ⊥

-- messages, and whether a length was too long, if it speaks by AGWPE
abbrev pub SaysMessages : PortKind → List ℕ → List ℕ → List AgwMessage → Bool → Type 0
SaysMessages Kiss stream octets messages failed = ⊥
SaysMessages Agw stream octets messages failed =
    (messages ≡ new_messages stream octets) × (failed ≡ is_some (bad_length_in (stream ++ octets)))

-- what the octets after a stream say
abbrev pub Says : PortKind → List ℕ → List ℕ → Said → Type 0
Says kind stream octets (Items items web) = SaysItems kind stream octets items.items web
Says kind stream octets (Messages messages failed) = SaysMessages kind stream octets messages.items failed

-- what the octets of a connection say
abbrev pub AreSaidItems : Option Connection → List ℕ → List KissItem → Bool → Type 0
AreSaidItems None octets items web = ⊥
AreSaidItems (Some connection) octets items web = SaysItems connection.kind connection.stream octets items web

abbrev pub AreSaidMessages : Option Connection → List ℕ → List AgwMessage → Bool → Type 0
AreSaidMessages None octets messages failed = ⊥
AreSaidMessages (Some connection) octets messages failed =
    SaysMessages connection.kind connection.stream octets messages failed

abbrev pub IsSaid : Option Connection → List ℕ → Said → Type 0
IsSaid own octets (Items items web) = AreSaidItems own octets items.items web
IsSaid own octets (Messages messages failed) = AreSaidMessages own octets messages.items failed
