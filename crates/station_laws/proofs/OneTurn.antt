-- What a station makes of an input is one turn. The definition leaves open, by its words alone, how octets are read and
-- which key a new link has; of each there is one.
use Rattle.station_laws.proofs.Common.{◌≡◌, ℕ, ◌++◌, Bool, true, false, List, [], ◌∷◌, Option, Some, None, refl}
use Rattle.station_laws.proofs.Common.{sym, ◌∙◌, ap, subst, inl, inr, is_some, MatchBool}
use Rattle.station_laws.proofs.Common.{BeginsWithPath-same, Callsign, Path, Command, way_back, Frame, Modulus, Eight}
use Rattle.station_laws.proofs.Common.{AgwMessage, repeated, Connect, Hear, PortKind, Kiss, Agw, Connection}
use Rattle.station_laws.proofs.Common.{connection_of, AreAnswered, IsCall, IsCallMade, answering_else, called_pid}
use Rattle.station_laws.proofs.Common.{called_route, calls, may_call, refused_reply, replying, bad_length_in}
use Rattle.station_laws.proofs.Common.{AreHeardAt, AreOctetsHeard, IsHeard, IsHeardAnew, IsHeardBy, IsHeardMaking}
use Rattle.station_laws.proofs.Common.{IsPathOf, IsReadingHeardAnew, IsRepeatedFor, may_make, shown_to_hosts}
use Rattle.station_laws.proofs.Common.{waits_for_repeater, AreTaken, AreTakenBy, IsHostTurn, ending, new_messages}
use Rattle.station_laws.proofs.Common.{taking, event_at, Links, key_between, link_at, making, no_layer_3}
use Rattle.station_laws.proofs.Common.{registrar, Route, path_along, StationState, asked_links, ticking, Turn}
use Rattle.station_laws.proofs.Common.{queueing, HostEvent, Bytes, Joined, Left, FromHost, OfClock}
use Rattle.station_laws.proofs.Common.{OffAir}
use Rattle.channel_access.specs.declared.air_tick.Sent.{Sent}
use Rattle.digipeater.specs.Repeated.{IsNextRepeater, IsTurnOf}
use Rattle.digipeater.proofs.Turns.{IsNextRepeater-same}
use Rattle.station.specs.AgwRequests.{IsAnswered}
use Rattle.station.specs.Heard.{IsForLink, IsOurs, IsReadAs, hearing_at, is_link_event, noting}
use Rattle.station.specs.Links.{link_modulus}
use Rattle.station.specs.Monitored.{heard_modulus, modulus_at, sent_modulus}
use Rattle.station.specs.Ticks.{IsSentFrame, IsTick, air_in}
use Rattle.station_laws.specs.OneTurn.{OneTurn}
use Rattle.station_laws.proofs.NewKeys.{one_key}
use Rattle.station_laws.proofs.Readings.{one_frame}

-- ---- readings of octets

one_path : (octets : List ℕ) (p q : Option Path) → IsPathOf octets p → IsPathOf octets q → p ≡ q
one_path octets None None h g = refl
one_path octets None (Some q) h g = absurd (h q g.0 g.1)
one_path octets (Some p) None h g = absurd (g p h.0 h.1)
one_path octets (Some p) (Some q) h g = ap Some (BeginsWithPath-same octets p q h.0 g.0 h.1 g.1).0

one_reading : (modulus : Modulus) (octets : List ℕ) (f g : Option Frame) → IsReadAs modulus octets f
    → IsReadAs modulus octets g → f ≡ g
one_reading modulus octets None None h k = refl
one_reading modulus octets None (Some g) h k = absurd (h g k)
one_reading modulus octets (Some f) None h k = absurd (k f h)
one_reading modulus octets (Some f) (Some g) h k = ap Some (one_frame modulus octets f g h k)

-- ---- what hosts send

one_call_made : (id pid : ℕ) (route : Route) (t u v : Turn) → IsCallMade id pid route t u → IsCallMade id pid route t v
    → u ≡ v
one_call_made id pid route t u v h g =
    let called : ℕ → Turn = λ key. event_at key Connect
    (making key id pid route.local route.remote (path_along route) t) in
    h.2 ∙ ap called (one_key t.now.links h.0 g.0 h.1 g.1) ∙ sym g.2

one_call : (id : ℕ) (message : AgwMessage) (route : Option Route) (t u v : Turn) → IsCall id message route t u
    → IsCall id message route t v → u ≡ v
one_call id message None t u v h g = h ∙ sym g
one_call id message (Some route) t u v h g = go (may_call id route t.now) h g
  where
    Made : Turn → Type 0
    Made w = IsCallMade id (called_pid message) route t w

    Refused : Turn → Type 0
    Refused w = w ≡ replying id (refused_reply message) t

    go : (may : Bool) → MatchBool may (Made u) (Refused u) → MatchBool may (Made v) (Refused v) → u ≡ v
    go true h g = one_call_made id (called_pid message) route t u v h g
    go false h g = h ∙ sym g

one_answer : (id : ℕ) (message : AgwMessage) (t u v : Turn) → IsAnswered id message t u → IsAnswered id message t v
    → u ≡ v
one_answer id message t u v h g = go (calls message) h g
  where
    Called : Turn → Type 0
    Called w = IsCall id message (called_route message) t w

    Else : Turn → Type 0
    Else w = w ≡ answering_else id message t

    go : (calling : Bool) → MatchBool calling (Called u) (Else u) → MatchBool calling (Called v) (Else v) → u ≡ v
    go true h g = one_call id message (called_route message) t u v h g
    go false h g = h ∙ sym g

all_answered : (id : ℕ) (messages : List AgwMessage) (t u v : Turn) → AreAnswered id messages t u
    → AreAnswered id messages t v → u ≡ v
all_answered id [] t u v h g = h ∙ sym g
all_answered id (message ∷ messages) t u v h g =
    let same : h.0 ≡ g.0 = one_answer id message t h.0 g.0 h.1 g.1 in
    all_answered id messages g.0 u v (subst (λ (w : Turn). AreAnswered id messages w u) same h.2) g.2

one_taken_by : (kind : PortKind) (c : Connection) (octets : List ℕ) (t u v : Turn) → AreTakenBy kind c octets t u
    → AreTakenBy kind c octets t v → u ≡ v
one_taken_by Kiss c octets t u v h g = h ∙ sym g
one_taken_by Agw c octets t u v h g =
    h.2
    ∙ ap (λ (w : Turn). ending c.id (is_some (bad_length_in (c.stream ++ octets))) w)
    (all_answered c.id (new_messages c.stream octets) (taking c.id octets t) h.0 g.0 h.1 g.1) ∙ sym g.2

one_taken : (c : Option Connection) (octets : List ℕ) (t u v : Turn) → AreTaken c octets t u → AreTaken c octets t v
    → u ≡ v
one_taken None octets t u v h g = h ∙ sym g
one_taken (Some c) octets t u v h g = one_taken_by c.kind c octets t u v h g

one_host : (event : HostEvent) (t u v : Turn) → IsHostTurn event t u → IsHostTurn event t v → u ≡ v
one_host (Joined id kind) t u v h g = h ∙ sym g
one_host (Bytes id octets) t u v h g = one_taken (connection_of id t.now.connections) octets t u v h g
one_host (Left id) t u v h g = h ∙ sym g

-- ---- what is heard

one_turn_of : (call : Callsign) (octets : List ℕ) (k j : ℕ) → IsTurnOf call octets k → IsTurnOf call octets j → k ≡ j
one_turn_of call octets k j h g =
    let same : g.path ≡ h.path = (BeginsWithPath-same octets g.path h.path g.len h.len g.begins h.begins).0 in
    IsNextRepeater-same h.path.repeaters.items k j h.next
    (subst (λ (p : Path). IsNextRepeater p.repeaters.items j) same g.next)

one_repeated : (digi : Option Callsign) (octets : List ℕ) (t u v : Turn) → IsRepeatedFor digi octets t u
    → IsRepeatedFor digi octets t v → u ≡ v
one_repeated None octets t u v h g = h ∙ sym g
one_repeated (Some call) octets t u v (inl h) (inl g) =
    h.2 ∙ ap (λ (k : ℕ). queueing None (repeated octets k) t) (one_turn_of call octets h.0 g.0 h.1 g.1) ∙ sym g.2
one_repeated (Some call) octets t u v (inl h) (inr g) = absurd (g.0 h.0 h.1)
one_repeated (Some call) octets t u v (inr h) (inl g) = absurd (h.0 g.0 g.1)
one_repeated (Some call) octets t u v (inr h) (inr g) = h.1 ∙ sym g.1

one_made : (id : ℕ) (frame : Frame) (t u v : Turn) → IsHeardMaking id frame t u → IsHeardMaking id frame t v → u ≡ v
one_made id frame t u v h g =
    let made : ℕ → Turn = λ key. event_at key (Hear frame)
    (making key id no_layer_3 frame.path.dest frame.path.source (way_back frame.path Command) t) in
    h.2 ∙ ap made (one_key t.now.links h.0 g.0 h.1 g.1) ∙ sym g.2

one_anew : (registered : Option ℕ) (frame : Frame) (t u v : Turn) → IsHeardAnew registered frame t u
    → IsHeardAnew registered frame t v → u ≡ v
one_anew None frame t u v h g = h ∙ sym g
one_anew (Some id) frame t u v h g = go (may_make frame.kind t.now.links) h g
  where
    go : (may : Bool) → MatchBool may (IsHeardMaking id frame t u) (u ≡ t)
        → MatchBool may (IsHeardMaking id frame t v) (v ≡ t) → u ≡ v
    go true h g = one_made id frame t u v h g
    go false h g = h ∙ sym g

one_reading_anew : (reading : Option Frame) (t u v : Turn) → IsReadingHeardAnew reading t u
    → IsReadingHeardAnew reading t v → u ≡ v
one_reading_anew None t u v h g = h ∙ sym g
one_reading_anew (Some frame) t u v h g = one_anew (registrar frame.path.dest t.now.registrations) frame t u v h g

one_at : (key : Option ℕ) (octets : List ℕ) (t u v : Turn) → AreHeardAt key octets t u → AreHeardAt key octets t v
    → u ≡ v
one_at (Some key) octets t u v h g =
    h.2
    ∙ ap (λ (reading : Option Frame). hearing_at key reading t)
    (one_reading (link_modulus (link_at key t.now.links)) octets h.0 g.0 h.1 g.1) ∙ sym g.2
one_at None octets t u v h g =
    let same : h.0 ≡ g.0 = one_reading Eight octets h.0 g.0 h.1 g.1 in
    one_reading_anew g.0 t u v (subst (λ (reading : Option Frame). IsReadingHeardAnew reading t u) same h.2) g.2

one_by : (path : Option Path) (octets : List ℕ) (t u v : Turn) → IsHeardBy path octets t u → IsHeardBy path octets t v
    → u ≡ v
one_by None octets t u v h g = h ∙ sym g
one_by (Some path) octets t u v h g = go (waits_for_repeater path) h g
  where
    go : (waits : Bool)
        → MatchBool waits (IsRepeatedFor t.now.digi octets t u) (AreOctetsHeard path octets t u)
        → MatchBool waits (IsRepeatedFor t.now.digi octets t v) (AreOctetsHeard path octets t v) → u ≡ v
    go true h g = one_repeated t.now.digi octets t u v h g
    go false h g = one_at (key_between path.dest path.source t.now.links) octets t u v h g

one_ours : (path : Option Path) (octets : List ℕ) (s : StationState) (a b : Bool) → IsOurs path octets s a
    → IsOurs path octets s b → a ≡ b
one_ours None octets s a b h g = h ∙ sym g
one_ours (Some path) octets s a b h g = go (waits_for_repeater path) h g
  where
    key : Option ℕ
    key = key_between path.dest path.source s.links

    go : (waits : Bool) → MatchBool waits (a ≡ false) (IsForLink key octets s a)
        → MatchBool waits (b ≡ false) (IsForLink key octets s b) → a ≡ b
    go true h g = h ∙ sym g
    go false h g =
        h.2
        ∙ ap (λ (reading : Option Frame). is_link_event key reading s)
        (one_reading (modulus_at key s.links) octets h.0 g.0 h.1 g.1) ∙ sym g.2

one_heard : (octets : List ℕ) (t u v : Turn) → IsHeard octets t u → IsHeard octets t v → u ≡ v
one_heard octets t u v h g =
    let path : h.path ≡ g.path = one_path octets h.path g.path h.reading g.reading in
    let frame : h.monitored ≡ g.monitored = one_reading (heard_modulus g.path t.now.links) octets h.monitored
    g.monitored (subst (λ (p : Option Path). IsReadAs (heard_modulus p t.now.links) octets h.monitored) path h.read_as)
    g.read_as in
    let by : IsHeardBy g.path octets (shown_to_hosts g.path octets h.monitored t) h.between =
    subst (λ (p : Option Path). IsHeardBy p octets (shown_to_hosts p octets h.monitored t) h.between) path h.effect in
    let between : h.between ≡ g.between = one_by g.path octets (shown_to_hosts g.path octets g.monitored t) h.between
    g.between (subst (λ (f : Option Frame). IsHeardBy g.path octets (shown_to_hosts g.path octets f t) h.between) frame
    by) g.effect in
    let ours : h.ours ≡ g.ours = one_ours g.path octets t.now h.ours g.ours
    (subst (λ (p : Option Path). IsOurs p octets t.now h.ours) path h.is_ours) g.is_ours in
    h.told ∙ ap (λ (p : Option Path). noting p h.ours h.between) path
    ∙ ap (λ (o : Bool). noting g.path o h.between) ours ∙ ap (λ (w : Turn). noting g.path g.ours w) between
    ∙ sym g.told

-- ---- a tick

one_sent : (sent : Option Sent) (links : Links) (f g : Option Frame) → IsSentFrame sent links f
    → IsSentFrame sent links g → f ≡ g
one_sent None links f g h k = h ∙ sym k
one_sent (Some sent) links f g h k =
    let path : h.0 ≡ k.0 = one_path sent.octets h.0 k.0 h.1 k.1 in
    one_reading (sent_modulus k.0 links) sent.octets f g
    (subst (λ (p : Option Path). IsReadAs (sent_modulus p links) sent.octets f) path h.2) k.2

one_tick : (busy : Bool) (t u v : Turn) → IsTick busy t u → IsTick busy t v → u ≡ v
one_tick busy t u v h g =
    h.effect
    ∙ ap (λ (frame : Option Frame). ticking busy frame t)
    (one_sent (air_in busy t).sent (asked_links busy t).now.links h.monitored g.monitored h.read_as g.read_as)
    ∙ sym g.effect

-- ---- each input

pub one_turn_holds : OneTurn
one_turn_holds (FromHost event) t u v h g = one_host event t u v h g
one_turn_holds (OffAir octets) t u v h g = one_heard octets t u v h g
one_turn_holds (OfClock busy) t u v h g = one_tick busy t u v h g
