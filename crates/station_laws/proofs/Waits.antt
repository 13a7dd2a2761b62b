-- The answers for the frames of a connection that wait: what host programs, links and heard frames leave of them.
use Rattle.station_laws.proofs.Common.{◌≡◌, ◌≢◌, ℕ, ◌==◌, Bool, true, false, not, List, [], ◌∷◌, ◌++◌}
use Rattle.station_laws.proofs.Common.{length, cond, Option, Some, None, is_some, refl, sym, ap, ◌∙◌}
use Rattle.station_laws.proofs.Common.{append-nil, append_assoc, eqb-true, false≢true, cases_eq, inl, inr}
use Rattle.station_laws.proofs.Common.{Callsign, SentFrame, Told, frame_octets, Event, step, done_of, settled_link, with_links}
use Rattle.station_laws.proofs.Common.{telling_one, telling_to, queueing_frame, queueing_frames, event_at, event_of}
use Rattle.station_laws.proofs.Common.{Link, link_at, making, path_along, called_pid, Turn, changing, closing}
use Rattle.station_laws.proofs.Common.{queueing_for, queueing_own, entering_for, dropping, may_enter, Asker, StationState}
use Rattle.station_laws.proofs.Common.{Connection, connection_of, LinkStep}
use Rattle.std.proofs.lemmas.Bool.{false_from_ne_true}
use Rattle.link_machine.specs.Event.Event.{Connect as LinkConnect}
use Rattle.station.specs.declared.host_out.Piece.{Piece}
use Rattle.station.specs.Askers.{answer_of, connection_is_kiss, is_kiss, speaks_kiss, without_askers}
use Rattle.station.specs.Connections.{with_connection, without_connection}
use Rattle.station_laws.specs.AnswersOverRuns.{waiting_answers}
use Rattle.station_laws.specs.FramesTold.{answer_for}
use Rattle.station_laws.proofs.Causes.{NotHeard}
use Rattle.station_laws.proofs.HostsStand.{event_hosts}
use Rattle.station_laws.proofs.StationActs.{ChangesHosts, KeptByHosts}
use Rattle.station_laws.proofs.StationActs.ChangesHosts.{keeps_hosts, turns_host, leaves_host}

-- ---- lists of askers

pub waiting_append : (id : ℕ) (first second : List (Option Asker))
    → waiting_answers id (first ++ second) ≡ waiting_answers id first ++ waiting_answers id second
waiting_append id [] second = refl
waiting_append id (asker ∷ first) second =
    ap (λ rest. answer_for id asker ++ rest) (waiting_append id first second)
    ∙ sym (append_assoc (answer_for id asker) (waiting_answers id first) (waiting_answers id second))

-- one more, who is told nothing of the connection's
pub waiting_other : (id : ℕ) (askers : List (Option Asker)) (asker : Option Asker) → answer_for id asker ≡ []
    → waiting_answers id (askers ++ asker ∷ []) ≡ waiting_answers id askers
waiting_other id askers asker none =
    waiting_append id askers (asker ∷ [])
    ∙ ap (λ more. waiting_answers id askers ++ (more ++ [])) none ∙ append-nil (waiting_answers id askers)

-- without the connection there are none
waiting_left : (id : ℕ) (askers : List (Option Asker)) → waiting_answers id (without_askers id askers) ≡ []
waiting_left id [] = refl
waiting_left id (None ∷ askers) = waiting_left id askers
waiting_left id (Some asker ∷ askers) = go (asker.id == id) refl (waiting_left id askers)
  where
    others : List Piece
    others = waiting_answers id (without_askers id askers)

    go : (b : Bool) → (asker.id == id) ≡ b → others ≡ [] → answer_for id (cond b None (Some asker)) ++ others ≡ []
    go true is none = none
    go false is none = ap (λ c. cond c (answer_of asker ∷ []) [] ++ others) is ∙ none

-- without another one there are as many
waiting_without : (id host : ℕ) (askers : List (Option Asker)) → host ≢ id
    → waiting_answers id (without_askers host askers) ≡ waiting_answers id askers
waiting_without id host [] other = refl
waiting_without id host (None ∷ askers) other = waiting_without id host askers other
waiting_without id host (Some asker ∷ askers) other =
    go (asker.id == host) refl ∙ ap (λ rest. answer_for id (Some asker) ++ rest) (waiting_without id host askers other)
  where
    rest : List (Option Asker)
    rest = without_askers host askers

    go : (b : Bool) → (asker.id == host) ≡ b
        → answer_for id (cond b None (Some asker)) ++ waiting_answers id rest
        ≡ answer_for id (Some asker) ++ waiting_answers id rest
    go true is =
        let differs : (asker.id == id) ≡ false =
        false_from_ne_true (asker.id == id) (λ e. other (sym (eqb-true asker.id host is) ∙ eqb-true asker.id id e)) in
        ap (λ c. cond c (answer_of asker ∷ []) [] ++ waiting_answers id rest) (sym differs)
    go false is = refl

-- ---- lists of connections

-- a connection that changes speaks as before
pub turned_speaks :
    (id host : ℕ) (change : Connection → Connection) → ((c : Connection) → (change c).id ≡ c.id)
    → ((c : Connection) → (change c).kind ≡ c.kind) → (connections : List Connection)
    → speaks_kiss id (with_connection host change connections) ≡ speaks_kiss id connections
turned_speaks id host change ids kinds [] = refl
turned_speaks id host change ids kinds (c ∷ connections) =
    go (c.id == host) (turned_speaks id host change ids kinds connections)
  where
    others : List Connection
    others = with_connection host change connections

    next : (x : Connection) → x.id ≡ c.id → x.kind ≡ c.kind → speaks_kiss id others ≡ speaks_kiss id connections
        → speaks_kiss id (x ∷ others) ≡ speaks_kiss id (c ∷ connections)
    next x same_id same_kind rest =
        ap (λ n. connection_is_kiss (cond (n == id) (Some x) (connection_of id others))) same_id ∙ by (c.id == id)
      where
        by : (b : Bool) → connection_is_kiss (cond b (Some x) (connection_of id others))
            ≡ connection_is_kiss (cond b (Some c) (connection_of id connections))
        by true = ap is_kiss same_kind
        by false = rest

    go : (b : Bool) → speaks_kiss id others ≡ speaks_kiss id connections
        → speaks_kiss id (cond b (change c) c ∷ others) ≡ speaks_kiss id (c ∷ connections)
    go true rest = next (change c) (ids c) (kinds c) rest
    go false rest = next c refl refl rest

-- one that is not there speaks nothing
left_speaks : (id : ℕ) (connections : List Connection)
    → speaks_kiss id (without_connection id connections) ≡ false
left_speaks id [] = refl
left_speaks id (c ∷ connections) = go (c.id == id) refl (left_speaks id connections)
  where
    others : List Connection
    others = without_connection id connections

    go : (b : Bool) → (c.id == id) ≡ b → speaks_kiss id others ≡ false
        → speaks_kiss id (cond (not b) (c ∷ others) others) ≡ false
    go true is none = none
    go false is none = ap (λ d. connection_is_kiss (cond d (Some c) (connection_of id others))) is ∙ none

-- without another one it speaks as before
pub other_speaks : (id host : ℕ) (connections : List Connection) → host ≢ id
    → speaks_kiss id (without_connection host connections) ≡ speaks_kiss id connections
other_speaks id host [] other = refl
other_speaks id host (c ∷ connections) other = go (c.id == host) refl (other_speaks id host connections other)
  where
    others : List Connection
    others = without_connection host connections

    rest : (d : Bool) → speaks_kiss id others ≡ speaks_kiss id connections
        → connection_is_kiss (cond d (Some c) (connection_of id others))
        ≡ connection_is_kiss (cond d (Some c) (connection_of id connections))
    rest true alike = refl
    rest false alike = alike

    go : (b : Bool) → (c.id == host) ≡ b → speaks_kiss id others ≡ speaks_kiss id connections
        → speaks_kiss id (cond (not b) (c ∷ others) others) ≡ speaks_kiss id (c ∷ connections)
    go true is alike =
        let differs : (c.id == id) ≡ false =
        false_from_ne_true (c.id == id) (λ e. other (sym (eqb-true c.id host is) ∙ eqb-true c.id id e)) in
        alike ∙ ap (λ d. connection_is_kiss (cond d (Some c) (connection_of id connections))) (sym differs)
    go false is alike = rest (c.id == id) alike

-- ---- links

-- the connections are the same, and as many answers wait
pub record Stand (id : ℕ) (t u : Turn) : Type 0 where
  pub connections : u.now.connections ≡ t.now.connections
  pub waits : waiting_answers id u.now.askers ≡ waiting_answers id t.now.askers

pub stand_on : (id : ℕ) (t u v : Turn) → Stand id t u → Stand id u v → Stand id t v
stand_on id t u v one two = record {
  connections = two.connections ∙ one.connections;
  waits = two.waits ∙ one.waits;
}

pub queued_stand : (id : ℕ) (owner : Option ℕ) (asker : Option Asker) (link : Option ℕ) (octets : List ℕ) (turn : Turn)
    → answer_for id asker ≡ [] → Stand id turn (queueing_for owner asker link octets turn)
queued_stand id owner asker link octets turn none = go (may_enter owner turn.now)
  where
    go : (b : Bool) → Stand id turn (cond b (entering_for owner asker link octets turn) (dropping turn))
    go true = record { connections = refl; waits = waiting_other id turn.now.askers asker none }
    go false = record { connections = refl; waits = refl }

frames_wait : (id key : ℕ) (frames : List SentFrame) (turn : Turn)
    → waiting_answers id (queueing_frames key frames turn).now.askers ≡ waiting_answers id turn.now.askers
frames_wait id key [] turn = refl
frames_wait id key (f ∷ frames) turn =
    frames_wait id key frames (queueing_frame key f turn) ∙ (queued_stand id None None (Some key) (frame_octets f.modulus f.frame) turn refl).waits

told_wait :
    (id : ℕ) (owner : Option ℕ) (local remote : Callsign) (told : List Told) (turn : Turn)
    → waiting_answers id (telling_to owner local remote told turn).now.askers ≡ waiting_answers id turn.now.askers
told_wait id None local remote [] turn = refl
told_wait id None local remote (item ∷ told) turn = told_wait id None local remote told turn
told_wait id (Some host) local remote [] turn = refl
told_wait id (Some host) local remote (item ∷ told) turn =
    told_wait id (Some host) local remote told (telling_one (Some host) local remote item turn)

pub event_stand : (id key : ℕ) (event : Event) (turn : Turn) → Stand id turn (event_at key event turn)
event_stand id key event turn = record {
  connections = event_hosts key event turn;
  waits = by_place (link_at key turn.now.links);
}
  where
    by_place : (place : Option Link)
        → waiting_answers id (event_of key event place turn).now.askers ≡ waiting_answers id turn.now.askers
    by_place None = refl
    by_place (Some link) =
        let stepped = step link.machine event in
        let placed = changing (with_links (settled_link key link stepped.now)) turn in
        let done = done_of stepped in
        told_wait id link.owner link.local link.remote done.told (queueing_frames key done.frames placed)
        ∙ frames_wait id key done.frames placed

-- ---- what comes from host programs

-- no answer waits for a connection that does not speak KISS
abbrev pub Tidy : ℕ → StationState → Type 0
Tidy id s = speaks_kiss id s.connections ≡ false → waiting_answers id s.askers ≡ []

-- That stays so. A connection that speaks KISS afterwards did before, and as many answers wait for it.
pub record Leaves (id : ℕ) (t : Turn) (steps : List LinkStep) (u : Turn) : Type 0 where
  pub tidy : Tidy id t.now → Tidy id u.now
  pub spoke : speaks_kiss id u.now.connections ≡ true → speaks_kiss id t.now.connections ≡ true
  pub waits : speaks_kiss id u.now.connections ≡ true
      → waiting_answers id u.now.askers ≡ waiting_answers id t.now.askers

-- by what speaks and waits as before
alike :
    (id : ℕ) (t u : Turn) (steps : List LinkStep)
    → speaks_kiss id u.now.connections ≡ speaks_kiss id t.now.connections
    → waiting_answers id u.now.askers ≡ waiting_answers id t.now.askers → Leaves id t steps u
alike id t u steps speaks waits = record {
  tidy = λ h none. waits ∙ h (sym speaks ∙ none);
  spoke = λ kiss. sym speaks ∙ kiss;
  waits = λ kiss. waits;
}

pub by_stand : (id : ℕ) (t u : Turn) (steps : List LinkStep) → Stand id t u → Leaves id t steps u
by_stand id t u steps h = alike id t u steps (ap (speaks_kiss id) h.connections) h.waits

-- by one that is there no more
gone :
    (id : ℕ) (t u : Turn) (steps : List LinkStep) → speaks_kiss id u.now.connections ≡ false
    → waiting_answers id u.now.askers ≡ [] → Leaves id t steps u
gone id t u steps none waits = record {
  tidy = λ h k. waits;
  spoke = λ kiss. absurd (false≢true (sym none ∙ kiss));
  waits = λ kiss. absurd (false≢true (sym none ∙ kiss));
}

leaves_on : (id : ℕ) (t u v : Turn) (first second : List LinkStep) → Leaves id t first u → Leaves id u second v
    → Leaves id t (first ++ second) v
leaves_on id t u v first second one two = record {
  tidy = λ h. two.tidy (one.tidy h);
  spoke = λ kiss. one.spoke (two.spoke kiss);
  waits = λ kiss. two.waits kiss ∙ one.waits (two.spoke kiss);
}

changed_leaves : (id : ℕ) (now : StationState) (t : Turn) → ChangesHosts t.now now
    → Leaves id t [] (record t { now = now })
changed_leaves id now t (keeps_hosts connections askers) =
    alike id t (record t { now = now }) [] (ap (speaks_kiss id) connections) (ap (waiting_answers id) askers)
changed_leaves id now t (turns_host host change ids kinds connections askers) =
    alike id t (record t { now = now }) []
    (ap (speaks_kiss id) connections ∙ turned_speaks id host change ids kinds t.now.connections)
    (ap (waiting_answers id) askers)
changed_leaves id now t (leaves_host host connections askers) = elim (cases_eq host id) [
  | inl is ↦ gone id t (record t { now = now }) []
      (ap (speaks_kiss id) connections ∙ ap (λ n. speaks_kiss id (without_connection n t.now.connections)) is
      ∙ left_speaks id t.now.connections)
      (ap (waiting_answers id) askers ∙ ap (λ n. waiting_answers id (without_askers n t.now.askers)) is
      ∙ waiting_left id t.now.askers)
  | inr other ↦ alike id t (record t { now = now }) []
      (ap (speaks_kiss id) connections ∙ other_speaks id host t.now.connections other)
      (ap (waiting_answers id) askers ∙ waiting_without id host t.now.askers other)
]

pub leaves_kept : (id : ℕ) → KeptByHosts is_some NotHeard (Leaves id)
leaves_kept id = record {
  kept = record {
    by_events = record {
      same = λ t. alike id t t [] refl refl;
      on = λ t u v first second. leaves_on id t u v first second;
      events = λ key event t may. by_stand id t (event_at key event t) _ (event_stand id key event t);
      asked = λ key t. alike id t _ [] refl refl;
    };
    called = λ host key message route t may is room new.
        let made = making key host (called_pid message) route.local route.remote (path_along route) t in
        let h = event_stand id key LinkConnect made in
        by_stand id t (event_at key LinkConnect made) _
        (record { connections = h.connections; waits = h.waits });
    replies = λ host message t other. alike id t _ [] refl refl;
    registers = λ call host t. alike id t _ [] refl refl;
  };
  changes = λ now t links hosts. changed_leaves id now t hosts;
  closes = λ host t. alike id t (closing host t) [] refl refl;
  queues = λ host octets t.
      by_stand id t (queueing_own host None octets t) [] (queued_stand id (Some host) None None octets t refl);
  disowns = λ key link t at. alike id t _ [] refl refl;
}
