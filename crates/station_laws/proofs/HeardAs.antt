-- What a frame that is heard is to the links of a station, once hosts have been shown it: nothing, an event of the link
-- of its two calls, or one of a link that is made for it.
use Rattle.station_laws.proofs.Common.{◌≡◌, ℕ, Bool, true, false, List, [], ◌∷◌, map, Option, Some, None, refl, sym}
use Rattle.station_laws.proofs.Common.{◌∙◌, subst, inl, inr, MatchBool, Callsign, BeginsWithPath, BeginsWithPath-same}
use Rattle.station_laws.proofs.Common.{way_back, Path, Command, Frame, Eight, IsFrame, repeated, Hear, PortKind, Kiss}
use Rattle.station_laws.proofs.Common.{Agw, Connection, IsPathOf, IsHeard, IsHeardBy, IsHeardAnew, IsHeardMaking}
use Rattle.station_laws.proofs.Common.{IsReadingHeardAnew, IsRepeatedFor, AreHeardAt, AreOctetsHeard, may_make}
use Rattle.station_laws.proofs.Common.{with_shown, showing_to, shown_to_hosts, source_field, destination_field}
use Rattle.station_laws.proofs.Common.{waits_for_repeater, event_at, IsNewKey, key_between, link_at, making}
use Rattle.station_laws.proofs.Common.{no_layer_3, registrar, Turn, in_order, queueing, Choice, LinkStep, steps_at}
use Rattle.station_laws.proofs.Common.{hears_at, new_steps, anew_steps, reading_steps, key_steps, path_steps}
use Rattle.station_laws.proofs.Common.{by_path_steps, heard_steps}
use Rattle.station.specs.Heard.{hearing_at, IsReadAs}
use Rattle.station.specs.Links.{link_modulus}

-- ---- what hosts are shown

-- what showing leaves as it was
pub record OnlyShows (t u : Turn) : Type 0 where
  pub now : u.now ≡ t.now
  pub closed : u.out.closed ≡ t.out.closed
  pub queued : u.out.queued ≡ t.out.queued

shows_to : (kind : PortKind) (id : ℕ) (raw : Bool) (from to octets : List ℕ) (t : Turn)
    → OnlyShows t (record t { out = with_shown kind id raw from to octets t.out })
shows_to Kiss id raw from to octets t = record { now = refl; closed = refl; queued = refl }
shows_to Agw id true from to octets t = record { now = refl; closed = refl; queued = refl }
shows_to Agw id false from to octets t = record { now = refl; closed = refl; queued = refl }

shows_all : (from to octets : List ℕ) (connections : List Connection) (t : Turn)
    → OnlyShows t (in_order (map (showing_to from to octets) connections) t)
shows_all from to octets [] t = record { now = refl; closed = refl; queued = refl }
shows_all from to octets (c ∷ connections) t =
    let one = shows_to c.kind c.id c.raw from to octets t in
    let rest = shows_all from to octets connections (showing_to from to octets c t) in
    record { now = rest.now ∙ one.now; closed = rest.closed ∙ one.closed; queued = rest.queued ∙ one.queued }

pub only_shows : (path : Option Path) (octets : List ℕ) (frame : Option Frame) (t : Turn)
    → OnlyShows t (shown_to_hosts path octets frame t)
only_shows path octets frame t =
    let all = shows_all (source_field path) (destination_field path) octets t.now.connections t in
    record { now = all.now; closed = all.closed; queued = all.queued }

-- ---- what is heard

-- the link that is made for it
abbrev pub made_for : ℕ → ℕ → Frame → Turn → Turn
made_for key id frame t =
    making key id no_layer_3 frame.path.dest frame.path.source (way_back frame.path Command) t

-- the events of the links that are meant, whichever these are, and the turn after them
pub data Heard (octets : List ℕ) (t : Turn) : (Choice → List LinkStep) → Turn → Type 0 where
  passes : Heard octets t (λ chosen. []) t
  repeats : (call : Callsign) (k : ℕ) → t.now.digi ≡ Some call
      → Heard octets t (λ chosen. []) (queueing None (repeated octets k) t)
  hears : (key len : ℕ) (path : Path) (frame : Frame) → BeginsWithPath octets path len
      → key_between path.dest path.source t.now.links ≡ Some key
      → IsFrame frame (link_modulus (link_at key t.now.links)) octets
      → Heard octets t (λ chosen. steps_at chosen None key (Hear frame) t) (event_at key (Hear frame) t)
  hears_new : (key id : ℕ) (frame : Frame) → IsFrame frame Eight octets
      → key_between frame.path.dest frame.path.source t.now.links ≡ None
      → registrar frame.path.dest t.now.registrations ≡ Some id → IsNewKey key t.now.links
      → Heard octets t (λ chosen. steps_at chosen (Some (way_back frame.path Command)) key (Hear frame)
      (made_for key id frame t)) (event_at key (Hear frame) (made_for key id frame t))

as_before : (octets : List ℕ) (t u : Turn) → u ≡ t → Heard octets t (λ chosen. []) u
as_before octets t u is = subst (Heard octets t (λ chosen. [])) (sym is) passes

new_heard :
    (octets : List ℕ) (id : ℕ) (frame : Frame) (may : Bool) (t u : Turn) → IsFrame frame Eight octets
    → key_between frame.path.dest frame.path.source t.now.links ≡ None
    → registrar frame.path.dest t.now.registrations ≡ Some id
    → (h : MatchBool may (IsHeardMaking id frame t u) (u ≡ t))
    → Heard octets t (λ chosen. new_steps chosen id frame may t u h) u
new_heard octets id frame true t u is vacant known h =
    subst (Heard octets t (λ chosen. new_steps chosen id frame true t u h)) (sym h.2)
    (hears_new h.0 id frame is vacant known h.1)
new_heard octets id frame false t u is vacant known h = as_before octets t u h

anew_heard :
    (octets : List ℕ) (registered : Option ℕ) (frame : Frame) (t u : Turn) → IsFrame frame Eight octets
    → key_between frame.path.dest frame.path.source t.now.links ≡ None
    → registrar frame.path.dest t.now.registrations ≡ registered → (h : IsHeardAnew registered frame t u)
    → Heard octets t (λ chosen. anew_steps chosen registered frame t u h) u
anew_heard octets None frame t u is vacant known h = as_before octets t u h
anew_heard octets (Some id) frame t u is vacant known h =
    new_heard octets id frame (may_make frame.kind t.now.links) t u is vacant known h

reading_heard :
    (octets : List ℕ) (path : Path) (len : ℕ) (reading : Option Frame) (t u : Turn) → BeginsWithPath octets path len
    → key_between path.dest path.source t.now.links ≡ None → IsReadAs Eight octets reading
    → (h : IsReadingHeardAnew reading t u) → Heard octets t (λ chosen. reading_steps chosen reading t u h) u
reading_heard octets path len None t u begins vacant is h = as_before octets t u h
reading_heard octets path len (Some frame) t u begins vacant is h =
    let same : path ≡ frame.path = (BeginsWithPath-same octets path frame.path len is.len begins is.path).0 in
    anew_heard octets (registrar frame.path.dest t.now.registrations) frame t u is
    (subst (λ (p : Path). key_between p.dest p.source t.now.links ≡ None) same vacant) refl h

at_heard :
    (octets : List ℕ) (key len : ℕ) (path : Path) (reading : Option Frame) (t : Turn) → BeginsWithPath octets path len
    → key_between path.dest path.source t.now.links ≡ Some key
    → IsReadAs (link_modulus (link_at key t.now.links)) octets reading
    → Heard octets t (λ chosen. hears_at chosen key reading t) (hearing_at key reading t)
at_heard octets key len path None t begins found is = passes
at_heard octets key len path (Some frame) t begins found is = hears key len path frame begins found is

key_heard :
    (octets : List ℕ) (path : Path) (len : ℕ) (key : Option ℕ) (t u : Turn) → BeginsWithPath octets path len
    → key_between path.dest path.source t.now.links ≡ key → (h : AreHeardAt key octets t u)
    → Heard octets t (λ chosen. key_steps chosen key octets t u h) u
key_heard octets path len (Some key) t u begins found h =
    subst (Heard octets t (λ chosen. hears_at chosen key h.0 t)) (sym h.2)
    (at_heard octets key len path h.0 t begins found h.1)
key_heard octets path len None t u begins found h = reading_heard octets path len h.0 t u begins found h.1 h.2

repeated_heard : (octets : List ℕ) (digi : Option Callsign) (t u : Turn) → t.now.digi ≡ digi
    → IsRepeatedFor digi octets t u → Heard octets t (λ chosen. []) u
repeated_heard octets None t u is h = as_before octets t u h
repeated_heard octets (Some call) t u is (inl h) =
    subst (Heard octets t (λ chosen. [])) (sym h.2) (repeats call h.0 is)
repeated_heard octets (Some call) t u is (inr h) = as_before octets t u h.1

path_heard :
    (octets : List ℕ) (path : Path) (len : ℕ) (waits : Bool) (t u : Turn) → BeginsWithPath octets path len
    → (h : MatchBool waits (IsRepeatedFor t.now.digi octets t u) (AreOctetsHeard path octets t u))
    → Heard octets t (λ chosen. path_steps chosen path waits octets t u h) u
path_heard octets path len true t u begins h = repeated_heard octets t.now.digi t u refl h
path_heard octets path len false t u begins h =
    key_heard octets path len (key_between path.dest path.source t.now.links) t u begins refl h

by_path_heard :
    (octets : List ℕ) (path : Option Path) (t u : Turn) → IsPathOf octets path → (h : IsHeardBy path octets t u)
    → Heard octets t (λ chosen. by_path_steps chosen path octets t u h) u
by_path_heard octets None t u is h = as_before octets t u h
by_path_heard octets (Some path) t u is h = path_heard octets path is.0 (waits_for_repeater path) t u is.1 h

pub heard_as :
    (octets : List ℕ) (t u : Turn) (h : IsHeard octets t u)
    → Heard octets (shown_to_hosts h.path octets h.monitored t) (λ chosen. heard_steps chosen octets t u h) h.between
heard_as octets t u h =
    by_path_heard octets h.path (shown_to_hosts h.path octets h.monitored t) h.between h.reading h.effect
