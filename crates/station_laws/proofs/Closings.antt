-- The connections that a step closes: links close none, one that is shut is closed, and those that were closed stay so.
use Rattle.station_laws.proofs.Common.{◌≡◌, ℕ, Bool, true, false, List, [], ◌∷◌, ◌++◌, length, map, cond, Option}
use Rattle.station_laws.proofs.Common.{Some, None, refl, sym, ap, ◌∙◌, append-nil, append_assoc, Callsign, SentFrame}
use Rattle.station_laws.proofs.Common.{Told, Event, Connect, step, done_of, settled_link, with_links, telling_one}
use Rattle.station_laws.proofs.Common.{telling_to, queueing_frame, queueing_frames, event_at, event_of, Link, link_at}
use Rattle.station_laws.proofs.Common.{most_links, with_link, without_host, without_owner, giving_up, giving_up_all}
use Rattle.station_laws.proofs.Common.{giving_up_link, is_number, leaving, shutting, Turn, in_order, changing, closing}
use Rattle.station_laws.proofs.Common.{queueing_for, queueing_own, entering_for, dropping, may_enter, range_with_len, Asker, Disconnect}
use Rattle.station_laws.proofs.Common.{called_pid, making, path_along, LinkStep, is_some, AgwMessage, AreAnswered}
use Rattle.station_laws.proofs.Common.{ending, may_register, registrar, registering, register_reply, replying}
use Rattle.station_laws.proofs.Common.{with_registration, subst, ◌≢◌}
use Rattle.std.specs.List.{AllByRecursion as Each}
use Rattle.station_laws.proofs.Causes.{NotHeard}
use Rattle.station_laws.proofs.StationActs.{KeptByAll, any_may_ask, hosts_of, messages_kept}

pub queued_closed : (owner : Option ℕ) (asker : Option Asker) (link : Option ℕ) (octets : List ℕ) (turn : Turn)
    → (queueing_for owner asker link octets turn).out.closed ≡ turn.out.closed
queued_closed owner asker link octets turn = go (may_enter owner turn.now)
  where
    go : (b : Bool) → (cond b (entering_for owner asker link octets turn) (dropping turn)).out.closed ≡ turn.out.closed
    go true = refl
    go false = refl

frames_closed : (key : ℕ) (frames : List SentFrame) (turn : Turn)
    → (queueing_frames key frames turn).out.closed ≡ turn.out.closed
frames_closed key [] turn = refl
frames_closed key (f ∷ frames) turn =
    frames_closed key frames (queueing_frame key f turn) ∙ queued_closed None None (Some key) _ turn

told_closed :
    (owner : Option ℕ) (local remote : Callsign) (told : List Told) (turn : Turn)
    → (telling_to owner local remote told turn).out.closed ≡ turn.out.closed
told_closed None local remote [] turn = refl
told_closed None local remote (item ∷ told) turn = told_closed None local remote told turn
told_closed (Some id) local remote [] turn = refl
told_closed (Some id) local remote (item ∷ told) turn =
    told_closed (Some id) local remote told (telling_one (Some id) local remote item turn)

pub event_closed : (key : ℕ) (event : Event) (turn : Turn) → (event_at key event turn).out.closed ≡ turn.out.closed
event_closed key event turn = by_place (link_at key turn.now.links)
  where
    by_place : (place : Option Link) → (event_of key event place turn).out.closed ≡ turn.out.closed
    by_place None = refl
    by_place (Some link) =
        let stepped = step link.machine event in
        let placed = changing (with_links (settled_link key link stepped.now)) turn in
        let done = done_of stepped in
        told_closed link.owner link.local link.remote done.told (queueing_frames key done.frames placed)
        ∙ frames_closed key done.frames placed

given_closed : (id key : ℕ) (turn : Turn) → (giving_up id key turn).out.closed ≡ turn.out.closed
given_closed id key turn = by_place (link_at key turn.now.links)
  where
    by_place : (place : Option Link) → (giving_up_link id key place turn).out.closed ≡ turn.out.closed
    by_place None = refl
    by_place (Some link) = by_owner (is_number id link.owner)
      where
        given : Turn
        given = changing (with_links (with_link key (without_owner link))) turn

        by_owner : (b : Bool) → (cond b (event_at key Disconnect given) turn).out.closed ≡ turn.out.closed
        by_owner true = event_closed key Disconnect given
        by_owner false = refl

left_closed : (id : ℕ) (turn : Turn) → (leaving id turn).out.closed ≡ turn.out.closed
unfolding giving_up_all
left_closed id turn = go (range_with_len 0 most_links) (changing (without_host id) turn)
  where
    go : (keys : List ℕ) (t : Turn) → (in_order (map (giving_up id) keys) t).out.closed ≡ t.out.closed
    go [] t = refl
    go (key ∷ keys) t = go keys (giving_up id key t) ∙ given_closed id key t

-- one that is shut is closed
pub shut_closed : (id : ℕ) (turn : Turn) → (shutting id turn).out.closed ≡ turn.out.closed ++ id ∷ []
shut_closed id turn = left_closed id (closing id turn)

-- ---- what was closed before a host program's acts

-- more are closed, or as many
abbrev pub ClosesMore : Turn → List LinkStep → Turn → Type 0
ClosesMore t steps u = (more : List ℕ) × (u.out.closed ≡ t.out.closed ++ more)

closes_none : (t u : Turn) → u.out.closed ≡ t.out.closed → ClosesMore t [] u
closes_none t u same = ([], same ∙ sym (append-nil t.out.closed))

pub closes_kept : KeptByAll is_some NotHeard ClosesMore
closes_kept = record {
  kept = record {
    by_events = record {
      same = λ t. closes_none t t refl;
      on = λ t u v first second one two. (
        one.0 ++ two.0,
        two.1 ∙ ap (λ closed. closed ++ two.0) one.1 ∙ append_assoc t.out.closed one.0 two.0,
      );
      events = λ key event t may. closes_none t (event_at key event t) (event_closed key event t);
      asked = λ key t. closes_none t t refl;
    };
    called = λ host key message route t may is room new.
        let made = making key host (called_pid message) route.local route.remote (path_along route) t in
        closes_none t (event_at key Connect made) (event_closed key Connect made);
    replies = λ host message t other. closes_none t t refl;
    registers = λ call host t. closes_none t t refl;
  };
  changes = λ now t h. closes_none t t refl;
  closes = λ host t. (host ∷ [], refl);
  queues = λ id asker octets t.
      closes_none t (queueing_own id asker octets t) (queued_closed (Some id) asker None octets t);
  disowns = λ key link t at. closes_none t t refl;
}

-- of messages of a host program
pub messages_close : (id : ℕ) (messages : List AgwMessage) (t u : Turn) → AreAnswered id messages t u
    → ClosesMore t [] u
messages_close id messages t u h =
    messages_kept is_some NotHeard ClosesMore (hosts_of closes_kept)
    (λ n v. (n ∷ [], shut_closed n v)) id messages t u (any_may_ask messages) h

-- of a connection that is perhaps read no further
pub ending_closes : (id : ℕ) (ends : Bool) (t : Turn) → ClosesMore t [] (ending id ends t)
ending_closes id false t = closes_none t t refl
ending_closes id true t = (id ∷ [], shut_closed id t)

-- of an X alone
pub register_closes : (id : ℕ) (from : List ℕ) (call : Option Callsign) (t : Turn)
    → (registering id from call t).out.closed ≡ t.out.closed
register_closes id from None t = refl
register_closes id from (Some call) t = go (may_register id (registrar call t.now.registrations))
  where
    go : (b : Bool)
        → (cond b (replying id (register_reply from true) (changing (with_registration call id) t))
        (replying id (register_reply from false) t)).out.closed ≡ t.out.closed
    go true = refl
    go false = refl

-- ---- a connection that is not among them

abbrev pub IsOpen : ℕ → Turn → Type 0
IsOpen id turn = Each (λ other. other ≢ id) turn.out.closed

open_first : (id : ℕ) (first second : List ℕ) → Each (λ other. other ≢ id) (first ++ second)
    → Each (λ other. other ≢ id) first
open_first id [] second h = tt
open_first id (x ∷ first) second h = (h.0, open_first id first second h.1)

open_last : (id last : ℕ) (first : List ℕ) → Each (λ other. other ≢ id) (first ++ last ∷ []) → last ≢ id
open_last id last [] h = h.0
open_last id last (x ∷ first) h = open_last id last first h.1

-- was not before
pub open_before : (id : ℕ) (t u : Turn) (steps : List LinkStep) → ClosesMore t steps u → IsOpen id u → IsOpen id t
open_before id t u steps closes h =
    open_first id t.out.closed closes.0 (subst (Each (λ other. other ≢ id)) closes.1 h)

-- and is none that is shut
pub open_other : (id other : ℕ) (turn : Turn) → IsOpen id (shutting other turn) → other ≢ id
open_other id other turn h =
    open_last id other turn.out.closed (subst (Each (λ n. n ≢ id)) (shut_closed other turn) h)
