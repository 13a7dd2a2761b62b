-- The host programs of a bench: which connections they have, what has come from each, and that a step of a station
-- changes no more of that than what comes in it.
use Rattle.channel_bench.proofs.Common.{◌≡◌, ℕ, ◌==◌, Bool, true, false, List, [], ◌∷◌, cond, Option}
use Rattle.channel_bench.proofs.Common.{is_some, Some, None, refl, sym, ap, ◌∙◌, subst, eqb-true, spelling, AgwMessage}
use Rattle.channel_bench.proofs.Common.{IsWritten, each_append, PortKind, Kiss, Agw, AreAnswered, IsAnswered}
use Rattle.channel_bench.proofs.Common.{Connection, connection_of, has_place, new_connection, with_connection}
use Rattle.channel_bench.proofs.Common.{AreTaken, AreTakenBy, ending, joining, taking, with_host, with_octets}
use Rattle.channel_bench.proofs.Common.{StationState, Turn, begin, changing, closing, program_id, kiss_id}
use Rattle.channel_bench.proofs.Common.{full_duplex_octets, Callsign, Choice, eq-eqb, not, ◌&&◌}
use Rattle.std.specs.Prelude.{find, option_map}
use Rattle.ax25_address.specs.SameCall.{is_same_call}
use Rattle.station.specs.Passing.{is_silent, loser, loser_among, passing, shutting_loser}
use Rattle.station.specs.Registrations.{registered, registrar}
use Rattle.station.specs.declared.registration.Registration.{Registration}
use Rattle.station_laws.specs.LinkSteps.{loser_steps, passing_steps}
use Rattle.std.specs.List.{AllByRecursion as Each}
use Rattle.station.specs.Host.{new_items}
use Rattle.station.specs.Kiss.{heeding_all, param_of, with_param}
pub use Rattle.station_laws.proofs.Connected.{found}
use Rattle.channel_bench.proofs.HostStreams.{IsSetting, IsWhole, none_bad, one_new, one_setting, setting_more}
use Rattle.channel_bench.proofs.HostStreams.{no_web, whole_more}
use Rattle.channel_bench.proofs.TurnWalks.{KeptByTurns}

-- ---- the connections

-- A connection of the bench: of the host program by AGWPE, and another by KISS. What came by AGWPE are whole messages,
-- and what came by KISS sets full duplex.
pub record IsHosts (c : Connection) : Type 0 where
  pub kiss : c.id ≡ kiss_id → c.kind ≡ Kiss
  pub program : c.id ≡ program_id → c.kind ≡ Agw
  pub whole : c.kind ≡ Agw → IsWhole c.stream
  pub setting : c.kind ≡ Kiss → IsSetting c.stream
  -- no frames are shown to it
  pub raw : c.raw ≡ false
  pub monitors : c.monitors ≡ false

-- the host program alone registers
abbrev pub IsOfProgram : Registration → Type 0
IsOfProgram registration = registration.id ≡ program_id

-- all that a station has, which repeats for nobody and makes the longest packets
pub record HasHosts (s : StationState) : Type 0 where
  pub connections : Each IsHosts s.connections
  pub digi : s.digi ≡ None
  pub paclen : s.paclen ≡ 256
  pub registered : Each IsOfProgram s.registrations

-- a step that no connection's octets come in changes none
pub record SameHosts (before after : Turn) : Type 0 where
  pub connections : after.now.connections ≡ before.now.connections
  pub digi : after.now.digi ≡ before.now.digi
  pub paclen : after.now.paclen ≡ before.now.paclen
  pub registered : Each IsOfProgram before.now.registrations → Each IsOfProgram after.now.registrations
  pub closed : after.out.closed ≡ before.out.closed

-- a registration more
with_own :
    (call : Callsign) (registrations : List Registration) (other : Option ℕ) → Each IsOfProgram registrations
    → Each IsOfProgram (registered call program_id other registrations)
with_own call registrations None own = each_append IsOfProgram registrations _ own (refl, tt)
with_own call registrations (Some other) own = own

-- a call passes to the host program from nobody
has_registered :
    (call : Callsign) (registrations : List Registration) (other : ℕ) → Each IsOfProgram registrations
    → registrar call registrations ≡ Some other → other ≡ program_id
has_registered call [] other own is = absurd (cc)
has_registered call (r ∷ registrations) other own is =
    go (is_same_call r.call call) (has_registered call registrations other own.1) is
  where
    rest : Option Registration
    rest = find (λ registration. is_same_call registration.call call) registrations

    go : (b : Bool) → (registrar call registrations ≡ Some other → other ≡ program_id)
        → option_map (λ registration. registration.id) (cond b (Some r) rest) ≡ Some other → other ≡ program_id
    go true later at = let same : r.id ≡ other = cc in sym same ∙ own.0
    go false later at = later at

no_loser : (call : Callsign) (s : StationState) → Each IsOfProgram s.registrations → loser program_id call s ≡ None
no_loser call s own = go (registrar call s.registrations) refl
  where
    go : (o : Option ℕ) → registrar call s.registrations ≡ o → loser_among program_id o s ≡ None
    go None is = refl
    go (Some other) is =
        let silent = is_silent s.ticks (connection_of other s.connections) in
        ap (λ b. cond (not b && silent) (Some other) None)
        (eq-eqb other program_id (has_registered call s.registrations other own is))

pub none_passes : (call : Option Callsign) (t : Turn) → Each IsOfProgram t.now.registrations
    → passing program_id call t ≡ t
none_passes None t own = refl
none_passes (Some call) t own = ap (λ other. shutting_loser other t) (no_loser call t.now own)

-- so no link is given up
pub no_passing_steps : (chosen : Choice) (call : Option Callsign) (t : Turn) → Each IsOfProgram t.now.registrations
    → passing_steps chosen program_id call t ≡ []
no_passing_steps chosen None t own = refl
no_passing_steps chosen (Some call) t own = ap (λ other. loser_steps chosen other t) (no_loser call t.now own)

pub same_hosts : KeptByTurns SameHosts
same_hosts = record {
  acts = record {
    same = λ t. record { connections = refl; digi = refl; paclen = refl; registered = λ own. own; closed = refl };
    on = λ t u v h k. record { connections = k.connections ∙ h.connections; digi = k.digi ∙ h.digi; paclen = k.paclen ∙ h.paclen; registered = λ own. k.registered (h.registered own); closed = k.closed ∙ h.closed };
    tells = λ t pieces. record { connections = refl; digi = refl; paclen = refl; registered = λ own. own; closed = refl };
    links = λ change t. record { connections = refl; digi = refl; paclen = refl; registered = λ own. own; closed = refl };
    enters = λ key octets t. record { connections = refl; digi = refl; paclen = refl; registered = λ own. own; closed = refl };
    drops = λ t. record { connections = refl; digi = refl; paclen = refl; registered = λ own. own; closed = refl };
    asks = λ key t. record { connections = refl; digi = refl; paclen = refl; registered = λ own. own; closed = refl };
  };
  registers = λ call t. record {
    connections = refl;
    digi = refl;
    paclen = refl;
    registered = with_own call t.now.registrations (registrar call t.now.registrations);
    closed = refl;
  };
  told = λ path ours t. record { connections = refl; digi = refl; paclen = refl; registered = λ own. own; closed = refl };
}

pub still_has : (before after : Turn) → SameHosts before after → HasHosts before.now → HasHosts after.now
still_has before after same h =
    record {
      connections = subst (Each IsHosts) (sym same.connections) h.connections;
      digi = same.digi ∙ h.digi;
      paclen = same.paclen ∙ h.paclen;
      registered = same.registered h.registered;
    }

-- ---- a connection that joins

pub joins_hosts : (id : ℕ) (kind : PortKind) (s : StationState) → IsHosts (new_connection id kind) → HasHosts s
    → HasHosts (joining id kind (begin s)).now
joins_hosts id kind s new h = go (has_place s)
  where
    go : (b : Bool) → HasHosts (cond b (changing (with_host id kind) (begin s)) (closing id (begin s))).now
    go true = record {
      connections = each_append IsHosts s.connections (new_connection id kind ∷ []) h.connections (new, tt);
      digi = h.digi;
      paclen = h.paclen;
      registered = h.registered;
    }
    go false = h

-- ---- octets that come

-- the connection of an id, with octets more
with_more :
    (id ticks : ℕ) (octets : List ℕ) (connections : List Connection)
    → ((c : Connection) → c.id ≡ id → IsHosts c → IsHosts (with_octets ticks octets c))
    → Each IsHosts connections → Each IsHosts (with_connection id (with_octets ticks octets) connections)
with_more id ticks octets [] more h = tt
with_more id ticks octets (c ∷ connections) more h =
    (go (c.id == id) refl, with_more id ticks octets connections more h.1)
  where
    go : (b : Bool) → (c.id == id) ≡ b → IsHosts (cond b (with_octets ticks octets c) c)
    go true is = more c (eqb-true c.id id is) h.0
    go false is = h.0

-- a message of the host program
message_hosts :
    (ticks : ℕ) (message : AgwMessage) → IsWritten message → (c : Connection) → c.id ≡ program_id → IsHosts c
    → IsHosts (with_octets ticks (spelling message) c)
message_hosts ticks message written c is h = record {
  kiss = h.kiss;
  program = h.program;
  whole = λ agw. whole_more c.stream message written (h.whole agw);
  setting = λ kiss. let clash : Agw ≡ Kiss = sym (h.program is) ∙ kiss in absurd (cc);
  raw = h.raw;
  monitors = h.monitors;
}

kiss_hosts : (ticks : ℕ) (c : Connection) → c.id ≡ kiss_id → IsHosts c
    → IsHosts (with_octets ticks full_duplex_octets c)
kiss_hosts ticks c is h = record {
  kiss = h.kiss;
  program = h.program;
  whole = λ agw. let clash : Kiss ≡ Agw = sym (h.kiss is) ∙ agw in absurd (cc);
  setting = λ kiss. setting_more c.stream (h.setting kiss);
  raw = h.raw;
  monitors = h.monitors;
}

-- What the octets of one message of the host program do: nothing, if it has no connection, and else what the message
-- does.
pub data IsSaid (message : AgwMessage) (before after : Turn) : Type 0 where
  unheard : after ≡ before → IsSaid message before after
  said : IsAnswered program_id message (taking program_id (spelling message) before) after → IsSaid message before after

pub said_by :
    (message : AgwMessage) (before after : Turn) → IsWritten message → HasHosts before.now
    → AreTaken (connection_of program_id before.now.connections) (spelling message) before after
    → IsSaid message before after
said_by message before after written h taken = go (connection_of program_id before.now.connections) refl taken
  where
    by_kind :
        (c : Connection) (kind : PortKind) → IsHosts c → c.id ≡ program_id → c.kind ≡ kind
        → AreTakenBy kind c (spelling message) before after → IsSaid message before after
    by_kind c Kiss hosts id is t = let clash : Agw ≡ Kiss = sym (hosts.program id) ∙ is in absurd (cc)
    by_kind c Agw hosts id is t =
        let whole = hosts.whole is in
        let taken_turn = taking c.id (spelling message) before in
        let answered : AreAnswered c.id (message ∷ []) taken_turn t.0 =
        subst (λ ms. AreAnswered c.id ms taken_turn t.0) (one_new c.stream message written whole) t.1 in
        let ends : after ≡ t.0 = t.2
        ∙ ap (λ len. ending c.id (is_some len) t.0) (none_bad c.stream message written whole) in
        let last : after ≡ answered.0 = ends ∙ answered.2 in
        said (subst (λ n. IsAnswered n message (taking n (spelling message) before) after) id
        (subst (IsAnswered c.id message taken_turn) (sym last) answered.1))

    go : (place : Option Connection) → connection_of program_id before.now.connections ≡ place
        → AreTaken place (spelling message) before after → IsSaid message before after
    go None is t = unheard t
    go (Some c) is t =
        let at = found IsHosts program_id before.now.connections c h.connections is in
        by_kind c c.kind at.0 at.1 refl t

pub taken_hosts : (message : AgwMessage) (before : Turn) → IsWritten message → HasHosts before.now
    → HasHosts (taking program_id (spelling message) before).now
taken_hosts message before written h = record {
  connections = with_more program_id before.now.ticks (spelling message) before.now.connections
      (message_hosts before.now.ticks message written) h.connections;
  digi = h.digi;
  paclen = h.paclen;
  registered = h.registered;
}

-- ---- KISS

-- the station with full duplex set
abbrev pub full_set : StationState → StationState
full_set s = with_param (param_of 5 1) s

-- What comes by KISS does nothing, if there is no such connection, and else it sets full duplex.
pub data IsSet (before after : Turn) : Type 0 where
  unheard : after ≡ before → IsSet before after
  full : after ≡ changing full_set (taking kiss_id full_duplex_octets before) → IsSet before after

pub set_by :
    (before after : Turn) → HasHosts before.now
    → AreTaken (connection_of kiss_id before.now.connections) full_duplex_octets before after
    → IsSet before after
set_by before after h taken = go (connection_of kiss_id before.now.connections) refl taken
  where
    by_kind :
        (c : Connection) (kind : PortKind) → IsHosts c → c.id ≡ kiss_id → c.kind ≡ kind
        → AreTakenBy kind c full_duplex_octets before after → IsSet before after
    by_kind c Agw hosts id is t = let clash : Kiss ≡ Agw = sym (hosts.kiss id) ∙ is in absurd (cc)
    by_kind c Kiss hosts id is t =
        full (t
        ∙ ap (λ web. ending c.id web (heeding_all c.id (new_items c.stream full_duplex_octets)
        (taking c.id full_duplex_octets before))) (no_web c.stream (hosts.setting is))
        ∙ ap (λ items. heeding_all c.id items (taking c.id full_duplex_octets before))
        (one_setting c.stream (hosts.setting is))
        ∙ ap (λ n. changing full_set (taking n full_duplex_octets before)) id)

    go : (place : Option Connection) → connection_of kiss_id before.now.connections ≡ place
        → AreTaken place full_duplex_octets before after → IsSet before after
    go None is t = unheard t
    go (Some c) is t =
        let at = found IsHosts kiss_id before.now.connections c h.connections is in
        by_kind c c.kind at.0 at.1 refl t

pub kiss_taken : (before : Turn) → HasHosts before.now → HasHosts (taking kiss_id full_duplex_octets before).now
kiss_taken before h = record {
  connections = with_more kiss_id before.now.ticks full_duplex_octets before.now.connections
      (kiss_hosts before.now.ticks) h.connections;
  digi = h.digi;
  paclen = h.paclen;
  registered = h.registered;
}
