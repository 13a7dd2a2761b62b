-- A station after what it shows to a connection.
use Rattle.station.proofs.Common.{◌≡◌, ℕ, List, [], ◌∷◌, map, Option, Some, false, refl, ◌∙◌, ap, subst, Path, Frame}
use Rattle.station.proofs.Common.{PortKind, Kiss, Agw, Parts, Connection, IsReadAs, showing, showing_to, shown_to_hosts}
use Rattle.station.proofs.Common.{monitoring, StationState, Reads, Shows, StandsForConnection, Out, Turn, in_order}
use Rattle.agwpe_port.specs.CallField.{call_field}
use Rattle.station.specs.declared.connection.Connection.{Connection as HeldConnection}
use Rattle.station.specs.declared.connection.Reader.{Reader}
use Rattle.station.specs.declared.connection.Reader.TheVariants.{KissReader, AgwReader}
use Rattle.station.specs.Heard.{with_shown, source_field, destination_field}
use Rattle.station.specs.HeldConnections.{kind_of}
use Rattle.station.specs.Monitored.{heard_modulus}

-- a reader reads a stream of its own kind
pub kind_read : (reader : Reader) (kind : PortKind) (stream : List ℕ) → Reads reader kind stream → kind_of reader ≡ kind
kind_read (KissReader reader) Kiss stream h = refl
kind_read (KissReader reader) Agw stream h = absurd h
kind_read (AgwReader reader) Kiss stream h = absurd h
kind_read (AgwReader reader) Agw stream h = refl

pub shows_shown : (parts : Parts) (old new : Out) (turn : Turn) (held : HeldConnection) (connection : Connection)
    (from to octets : List ℕ) → Shows parts old turn → StandsForConnection held connection
    → new ≡ with_shown (kind_of held.reader) held.id held.raw from to octets old
    → Shows parts new (showing_to from to octets connection turn)
shows_shown parts old new turn held connection from to octets shows stands shown = record {
  holds = shows.holds;
  gave = shown
      ∙ ap (λ kind. with_shown kind held.id held.raw from to octets old)
      (kind_read held.reader connection.kind connection.stream stands.reader)
      ∙ ap (λ id. with_shown connection.kind id held.raw from to octets old) stands.id
      ∙ ap (λ raw. with_shown connection.kind connection.id raw from to octets old) stands.raw
      ∙ ap (λ (out : Out). with_shown connection.kind connection.id connection.raw from to octets out) shows.gave;
}

shown_to_each : (from to octets : List ℕ) (connections : List Connection) (turn : Turn)
    → (in_order (map (showing_to from to octets) connections) turn).now ≡ turn.now
shown_to_each from to octets [] turn = refl
shown_to_each from to octets (connection ∷ connections) turn =
    shown_to_each from to octets connections (showing_to from to octets connection turn)

-- what is shown changes no station
pub same_station : (from to octets : List ℕ) (turn : Turn) → (showing from to octets turn).now ≡ turn.now
same_station from to octets turn = shown_to_each from to octets turn.now.connections turn

pub hosts_shown : (path : Option Path) (octets : List ℕ) (frame : Option Frame) (turn : Turn)
    → (shown_to_hosts path octets frame turn).now ≡ turn.now
hosts_shown path octets frame turn = same_station (source_field path) (destination_field path) octets turn

-- a frame of a path that is shown raw, and then to those that monitor, is shown to hosts
pub shown_along : (parts : Parts) (raw all : Out) (path : Path) (from to octets : List ℕ) (turn : Turn)
    → from ≡ call_field path.source → to ≡ call_field path.dest → Shows parts raw (showing from to octets turn)
    → ((shown : Turn) → Shows parts raw shown → (frame : Option Frame)
    × IsReadAs (heard_modulus (Some path) shown.now.links) octets frame
    × Shows parts all (monitoring false shown.now.ticks frame shown))
    → (frame : Option Frame) × IsReadAs (heard_modulus (Some path) turn.now.links) octets frame
    × Shows parts all (shown_to_hosts (Some path) octets frame turn)
shown_along parts raw all path from to octets turn from_is to_is shows monitors =
    let shown : Turn = showing (call_field path.source) (call_field path.dest) octets turn in
    let told = monitors shown (subst (λ call. Shows parts raw (showing call (call_field path.dest) octets turn)) from_is
    (subst (λ call. Shows parts raw (showing from call octets turn)) to_is shows)) in
    let station : shown.now ≡ turn.now = same_station (call_field path.source) (call_field path.dest) octets turn in (
      told.0,
      subst (λ (s : StationState). IsReadAs (heard_modulus (Some path) s.links) octets told.0) station told.1,
      subst (λ (s : StationState). Shows parts all (monitoring false s.ticks told.0 shown)) station told.2,
    )
