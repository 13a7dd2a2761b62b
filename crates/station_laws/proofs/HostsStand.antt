-- Ticks of links, one of which is then perhaps asked for a frame, leave the connections of hosts as they are; and a
-- connection that speaks AGWPE is told of no frame.
use Rattle.station_laws.proofs.Common.{◌≡◌, ℕ, Bool, true, false, nat_lt, List, [], ◌∷◌, length, map, cond, Option}
use Rattle.station_laws.proofs.Common.{Some, None, refl, ◌∙◌, Callsign, SentFrame, Told, Event, step, done_of}
use Rattle.station_laws.proofs.Common.{settled_link, with_links, telling_one, telling_to, queueing_frame}
use Rattle.station_laws.proofs.Common.{queueing_frames, event_at, event_of, Link, link_at, most_links, Turn, in_order}
use Rattle.station_laws.proofs.Common.{changing, queueing, entering, dropping, capacity, range_with_len}
use Rattle.station_laws.proofs.Common.{ticking_at, ticking_links, asked_links, asking_at, asked_key, seizing, with_asked}
use Rattle.station_laws.proofs.Common.{◌==◌, Connection, connection_of, Agw, sym, ap, eqb-true, false≢true}
use Rattle.std.specs.List.{AllByRecursion as Each}
use Rattle.std.proofs.lemmas.Bool.{false_from_ne_true}
use Rattle.station.specs.Askers.{connection_is_kiss, is_kiss, speaks_kiss}

queued_hosts : (link : Option ℕ) (octets : List ℕ) (turn : Turn)
    → (queueing link octets turn).now.connections ≡ turn.now.connections
queued_hosts link octets turn = go (nat_lt (length turn.now.channel.waiting) capacity)
  where
    go : (b : Bool) → (cond b (entering link octets turn) (dropping turn)).now.connections ≡ turn.now.connections
    go true = refl
    go false = refl

frames_hosts : (key : ℕ) (frames : List SentFrame) (turn : Turn)
    → (queueing_frames key frames turn).now.connections ≡ turn.now.connections
frames_hosts key [] turn = refl
frames_hosts key (f ∷ frames) turn =
    frames_hosts key frames (queueing_frame key f turn) ∙ queued_hosts (Some key) _ turn

told_hosts :
    (owner : Option ℕ) (local remote : Callsign) (told : List Told) (turn : Turn)
    → (telling_to owner local remote told turn).now.connections ≡ turn.now.connections
told_hosts None local remote [] turn = refl
told_hosts None local remote (item ∷ told) turn = told_hosts None local remote told turn
told_hosts (Some id) local remote [] turn = refl
told_hosts (Some id) local remote (item ∷ told) turn =
    told_hosts (Some id) local remote told (telling_one (Some id) local remote item turn)

pub event_hosts : (key : ℕ) (event : Event) (turn : Turn)
    → (event_at key event turn).now.connections ≡ turn.now.connections
event_hosts key event turn = by_place (link_at key turn.now.links)
  where
    by_place : (place : Option Link) → (event_of key event place turn).now.connections ≡ turn.now.connections
    by_place None = refl
    by_place (Some link) =
        let stepped = step link.machine event in
        let placed = changing (with_links (settled_link key link stepped.now)) turn in
        let done = done_of stepped in
        told_hosts link.owner link.local link.remote done.told (queueing_frames key done.frames placed)
        ∙ frames_hosts key done.frames placed

ticked_hosts : (busy : Bool) (turn : Turn) → (ticking_links busy turn).now.connections ≡ turn.now.connections
unfolding ticking_links
ticked_hosts busy turn = go (range_with_len 0 most_links) turn
  where
    go : (keys : List ℕ) (t : Turn) → (in_order (map (ticking_at busy) keys) t).now.connections ≡ t.now.connections
    go [] t = refl
    go (key ∷ keys) t = go keys (ticking_at busy key t) ∙ event_hosts key _ t

pub asked_hosts : (busy : Bool) (turn : Turn) → (asked_links busy turn).now.connections ≡ turn.now.connections
asked_hosts busy turn = go (asked_key ticked.now) ∙ ticked_hosts busy turn
  where
    ticked : Turn
    ticked = ticking_links busy turn

    go : (key : Option ℕ) → (asking_at key (seizing ticked.now) ticked).now.connections ≡ ticked.now.connections
    go None = refl
    go (Some key) = event_hosts key (seizing ticked.now) (changing (with_asked key) ticked)

-- no connection of KISS has the id
pub no_kiss : (id : ℕ) (connections : List Connection)
    → Each (λ (c : Connection). c.id ≡ id → c.kind ≡ Agw) connections → speaks_kiss id connections ≡ false
no_kiss id [] agw = refl
no_kiss id (c ∷ connections) agw = go (c.id == id) refl (no_kiss id connections agw.1)
  where
    go : (b : Bool) → (c.id == id) ≡ b → speaks_kiss id connections ≡ false
        → connection_is_kiss (cond b (Some c) (connection_of id connections)) ≡ false
    go true is rest = ap is_kiss (agw.0 (eqb-true c.id id is))
    go false is rest = rest

-- so one that is told of a frame has another
pub told_is_other : (id host : ℕ) (connections : List Connection) → speaks_kiss id connections ≡ false
    → speaks_kiss host connections ≡ true → (host == id) ≡ false
told_is_other id host connections none speaks =
    false_from_ne_true (host == id) (λ same.
    false≢true (sym none ∙ ap (λ n. speaks_kiss n connections) (sym (eqb-true host id same)) ∙ speaks))
