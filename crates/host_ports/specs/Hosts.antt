-- The hosts of a live station between two of its steps: which connections are there, what waits to be sent to each, and
-- which of their octets the station has not taken yet.
use Rattle.std.specs.Prelude.{◌≡◌, ℕ, zero, suc, ◌+◌, ◌==◌, Bool, not, nat_le, if◌then◌else◌, List, [], ◌∷◌, ◌++◌}
use Rattle.std.specs.Prelude.{length, filter, find, Option, Some, None}
use Rattle.std.specs.List.{list_any}
use Rattle.channel_access.specs.declared.air_tick.AirTick.{AirTick}
use Rattle.station.specs.declared.config.Config.{Config}
use Rattle.station.specs.declared.host_event.HostEvent.TheVariants.{Left}
use Rattle.station.specs.declared.host_out.Piece.{Piece}
use Rattle.station.specs.Heard.{IsHeard}
use Rattle.station.specs.Host.{IsHostTurn}
use Rattle.station.specs.State.{StationState, new_station}
use Rattle.station.specs.Ticks.{IsTick, air_of}
use Rattle.station.specs.Turn.{Out, Turn, begin}
use Rattle.host_ports.specs.declared.client.Client.{Client}
use Rattle.host_ports.specs.declared.report_line.ReportLine.{ReportLine}
use Rattle.host_ports.specs.declared.report_line.ReportLine.TheVariants.{ClosedLine}
use Rattle.host_ports.specs.declared.untaken.Untaken.{Untaken}
use Rattle.host_ports.specs.Waiting.{most_octets, octets_of, with_piece}

pub record Hosts : Type 0 where
  pub station : StationState
  -- every id that joined so far
  pub came : List ℕ
  -- the connections that are there, in the order in which they joined, each with the pieces that wait for it
  pub clients : List Client
  -- octets of connections that the station has not taken yet, in the order in which they came
  pub untaken : List Untaken
  -- the lines of the report so far
  pub report : List ReportLine
  -- every piece that was appended to what waits for its connection, in order
  pub appended : List Piece
  -- what connections were sent, in order: of each send the octets that it took
  pub sent : List Piece
  -- the connections that were shut and of which the sockets are not told yet
  pub to_shut : List ℕ
  -- those of which the station is not told yet that they left
  pub leaving : List ℕ

abbrev pub new_hosts : Config → ℕ → Hosts
new_hosts config seed = record {
  station = new_station config seed;
  came = [];
  clients = [];
  untaken = [];
  report = [];
  appended = [];
  sent = [];
  to_shut = [];
  leaving = [];
}

-- ---- which connections are there

abbrev pub is_client_of : ℕ → Client → Bool
is_client_of id client = client.id == id

abbrev pub client_of : ℕ → List Client → Option Client
client_of id clients = find (is_client_of id) clients

abbrev pub is_there : ℕ → Hosts → Bool
is_there id hosts = list_any (is_client_of id) hosts.clients

abbrev pub is_among : ℕ → List ℕ → Bool
is_among id ids = list_any (λ other. other == id) ids

abbrev pub was_there : ℕ → Hosts → Bool
was_there id hosts = is_among id hosts.came

-- nothing of the connection is left
abbrev pub without : ℕ → Hosts → Hosts
without id hosts = record hosts {
  clients = filter (λ client. not (client.id == id)) hosts.clients;
  untaken = filter (λ one. not (one.id == id)) hosts.untaken;
  leaving = filter (λ other. not (other == id)) hosts.leaving;
}

-- a line of the report
abbrev pub reporting : ReportLine → Hosts → Hosts
reporting line hosts = record hosts { report = hosts.report ++ line ∷ [] }

-- a connection is shut because a step closes it, which the station knows
abbrev pub closing : ℕ → Hosts → Hosts
closing id hosts = reporting (ClosedLine id) (record (without id hosts) { to_shut = hosts.to_shut ++ id ∷ [] })

-- a connection is shut because its octets do not fit or its send failed, which the station is told
abbrev pub cutting : ℕ → Hosts → Hosts
cutting id hosts = let shut = closing id hosts in record shut { leaving = shut.leaving ++ id ∷ [] }

-- ---- what a step says to them

-- the client of a connection, with these pieces
abbrev pub with_waiting : ℕ → List (List ℕ) → List Client → List Client
with_waiting id waiting [] = []
with_waiting id waiting (client ∷ clients) =
    if client.id == id then record client { waiting = waiting } ∷ clients else client ∷ with_waiting id waiting clients

abbrev pub fits : List ℕ → List (List ℕ) → Bool
fits piece waiting = nat_le (length (octets_of waiting) + length piece) most_octets

-- a piece waits whole for its connection
abbrev pub waiting_too : Piece → Client → Hosts → Hosts
waiting_too piece client hosts = record hosts {
  clients = with_waiting client.id (with_piece piece.octets client.waiting) hosts.clients;
  appended = hosts.appended ++ piece ∷ [];
}

-- or it does not fit, and the connection is shut
abbrev pub appending_to : Option Client → Piece → Hosts → Hosts
appending_to None piece hosts = hosts
appending_to (Some client) piece hosts =
    if fits piece.octets client.waiting then waiting_too piece client hosts else cutting client.id hosts

-- what is said to a connection that the same step closes is dropped
abbrev pub appending_one : List ℕ → Piece → Hosts → Hosts
appending_one closed piece hosts =
    if is_among piece.id closed then hosts else appending_to (client_of piece.id hosts.clients) piece hosts

abbrev pub appending : List ℕ → List Piece → Hosts → Hosts
appending closed [] hosts = hosts
appending closed (piece ∷ pieces) hosts = appending closed pieces (appending_one closed piece hosts)

-- a connection that the step closes is shut, if it is there
abbrev pub closing_one : ℕ → Hosts → Hosts
closing_one id hosts = if is_there id hosts then closing id hosts else without id hosts

abbrev pub closing_all : List ℕ → Hosts → Hosts
closing_all [] hosts = hosts
closing_all (id ∷ ids) hosts = closing_all ids (closing_one id hosts)

abbrev pub delivering : Out → Hosts → Hosts
delivering out hosts = closing_all out.closed (appending out.closed out.pieces hosts)

-- ---- the steps of hosts

-- the station makes a step, and what that says is delivered
pub record IsDelivered (step : Turn → Turn → Type 0) (before after : Hosts) : Type 0 where
  pub next : StationState
  pub out : Out
  pub made : step (begin before.station) (record { now = next; out = out })
  pub delivered : after ≡ delivering out (record before { station = next })

-- the station is told of the connection that was shut first that it left
pub record FirstHasLeft (before after : Hosts) : Type 0 where
  pub id : ℕ
  pub others : List ℕ
  pub first : before.leaving ≡ id ∷ others
  pub told : IsDelivered (IsHostTurn (Left id)) (without id before) after

abbrev pub HaveLeft : ℕ → Hosts → Hosts → Type 0
HaveLeft zero before after = after ≡ before
HaveLeft (suc count) before after = (between : Hosts) × HaveLeft count before between × FirstHasLeft between after

-- it is told of all of them
pub record AllHaveLeft (before after : Hosts) : Type 0 where
  pub count : ℕ
  pub have_left : HaveLeft count before after
  pub nobody_more : after.leaving ≡ []

-- a step, after which the station knows of every connection that was shut
pub record IsStep (step : Turn → Turn → Type 0) (before after : Hosts) : Type 0 where
  pub between : Hosts
  pub delivers : IsDelivered step before between
  pub leave : AllHaveLeft between after

-- a frame is heard
abbrev pub IsHeardStep : List ℕ → Hosts → Hosts → Type 0
IsHeardStep octets = IsStep (IsHeard octets)

-- a tick of 10 ms, in which this is on the air
pub record IsTickStep (busy : Bool) (air : AirTick) (before after : Hosts) : Type 0 where
  pub on_air : air ≡ air_of busy before.station
  pub step : IsStep (IsTick busy) before after
