-- What comes from a host program keeps what holds of a link between two calls.
use Rattle.station_laws.proofs.Common.{◌≡◌, ℕ, Bool, true, false, ◌==◌, ◌&&◌, nat_lt, List, [], length, cond}
use Rattle.station_laws.proofs.Common.{if◌then◌else◌, Option, Some, None, refl, ap, ◌∙◌, subst, inl, is_none, and_parts}
use Rattle.station_laws.proofs.Common.{append-nil, Callsign, AgwMessage, new_machine, End, Tagged, HostEvent, replying}
use Rattle.station_laws.proofs.Common.{with_registration, may_call, called_route, called_pid, IsHostTurn}
use Rattle.station_laws.proofs.Common.{IsNewKey, is_between, key_between, most_links, making, idle_link, registrar}
use Rattle.station_laws.proofs.Common.{is_number, Route, repeaters_in, path_along, Turn, changing, closing}
use Rattle.station_laws.proofs.Common.{Asker, queueing_for, queueing_own}
use Rattle.station_laws.proofs.Common.{entering_for, dropping, may_enter, host_steps, first_chosen, event_at, steps_at}
use Rattle.station_laws.proofs.Common.{asked_links, tick_steps, with_asked}
use Rattle.link_machine.specs.Event.Event.{Connect as LinkConnect}
use Rattle.station.specs.AgwKinds.{connect_via_kind}
use Rattle.station.specs.Links.{count_of_links}
use Rattle.station_laws.proofs.Acts.{Setting, still_holds}
use Rattle.station_laws.proofs.Along.{Goes, goes_on}
use Rattle.station_laws.proofs.Events.{meant, MayMake, made_asked, act_goes, disowned_goes}
use Rattle.station_laws.proofs.Standing.{chosen_calls}
use Rattle.station_laws.proofs.Tables.{none_chosen}
use Rattle.station_laws.proofs.ValidCalls.{route_valid, no_or_few, along_good, none_by_position}
use Rattle.station_laws.proofs.Causes.{NotHeard}
use Rattle.station_laws.proofs.StationActs.{KeptByAll, any_kept, ticks_kept}

-- ---- what is nothing to a link

-- no link changes, and no frame of one is queued
pub record IsStill (turn after : Turn) : Type 0 where
  pub links : after.now.links ≡ turn.now.links
  pub parameters : after.now.parameters ≡ turn.now.parameters
  pub queued : after.out.queued ≡ turn.out.queued

pub still : (turn : Turn) → IsStill turn turn
still turn = record { links = refl; parameters = refl; queued = refl }

pub still_goes : (s : Setting) (e : End) (back : List Tagged) (turn after : Turn) → IsStill turn after
    → Goes s e back turn [] after
still_goes s e back turn after h w H = (still_holds s back turn after w H h.links h.parameters h.queued, tt)

-- a frame of no link
pub raw_still : (owner : Option ℕ) (asker : Option Asker) (octets : List ℕ) (turn : Turn)
    → IsStill turn (queueing_for owner asker None octets turn)
raw_still owner asker octets turn = go (may_enter owner turn.now)
  where
    go : (b : Bool) → IsStill turn (cond b (entering_for owner asker None octets turn) (dropping turn))
    go true = record { links = refl; parameters = refl; queued = append-nil turn.out.queued }
    go false = record { links = refl; parameters = refl; queued = refl }

pub still_both : (a b c : Turn) → IsStill a b → IsStill b c → IsStill a c
still_both a b c h k =
    record { links = k.links ∙ h.links; parameters = k.parameters ∙ h.parameters; queued = k.queued ∙ h.queued }

-- a link that a call makes
call_made :
    (s : Setting) (id pid : ℕ) (message : AgwMessage) (route : Route) (turn : Turn) (key : ℕ)
    → called_route message ≡ Some route → turn.now.parameters ≡ s.params → may_call id route turn.now ≡ true
    → IsNewKey key turn.now.links
    → MayMake s turn key (idle_link id pid route.local route.remote (path_along route) turn.now.parameters)
call_made s id pid message route turn key is parameters may new =
    let link = idle_link id pid route.local route.remote (path_along route) turn.now.parameters in
    let valid = route_valid message.from message.to (if message.kind == connect_via_kind then repeaters_in message.body
    else Some [])
    route (no_or_few (message.kind == connect_via_kind) message.body) is in
    let tests = and_parts (is_number id (registrar route.local turn.now.registrations))
    (is_none (key_between route.local route.remote turn.now.links) && nat_lt (count_of_links turn.now.links) most_links)
    may in
    let vacant = and_parts (is_none (key_between route.local route.remote turn.now.links))
    (nat_lt (count_of_links turn.now.links) most_links) tests.1 in
    record {
      new = new;
      good = record {
        path = along_good route valid;
        source = refl;
        dest = refl;
        params_are = parameters;
        counts = record { modulus_is = inl refl; short = tt };
      };
      none = λ chosen. let calls = chosen_calls s.local s.remote link chosen in
          subst (λ (l : Callsign). first_chosen (is_between l s.remote) turn.now.links.places ≡ None) calls.local_is
          (subst (λ (r : Callsign). first_chosen (is_between route.local r) turn.now.links.places ≡ None)
          calls.remote_is
          (none_chosen (is_between route.local route.remote) turn.now.links.places
          (none_by_position (is_between route.local route.remote) turn.now.links.places vacant.0)));
    }

called_goes :
    (s : Setting) (e : End) (back : List Tagged) (id key : ℕ) (message : AgwMessage) (route : Route) (turn : Turn)
    → called_route message ≡ Some route → may_call id route turn.now ≡ true → IsNewKey key turn.now.links
    → let path = path_along route in
    let made = making key id (called_pid message) route.local route.remote path turn in
    Goes s e back turn (steps_at (meant s) (Some path) key LinkConnect made) (event_at key LinkConnect made)
called_goes s e back id key message route turn is may new w H =
    let path = path_along route in
    let pid = called_pid message in
    let link = idle_link id pid route.local route.remote path turn.now.parameters in
    made_asked s e back turn key link path (making key id pid route.local route.remote path turn) LinkConnect tt
    (call_made s id pid message route turn key is H.parameters may new) (ap (new_machine path) H.parameters) refl w H

-- ---- all that comes from host programs, and ticks

goes_kept : (s : Setting) (e : End) (back : List Tagged) → KeptByAll (meant s) NotHeard (Goes s e back)
goes_kept s e back = record {
  kept = record {
    by_events = record {
      same = λ t w H. (H, tt);
      on = goes_on s e back;
      events = λ key event t asked. act_goes s e back key event t asked;
      asked = λ key t. still_goes s e back t (changing (with_asked key) t)
          (record { links = refl; parameters = refl; queued = refl });
    };
    called = λ id key message route t may. called_goes s e back id key message route t;
    replies = λ id message t other. still_goes s e back t (replying id message t)
        (record { links = refl; parameters = refl; queued = refl });
    registers = λ call id t. still_goes s e back t (changing (with_registration call id) t)
        (record { links = refl; parameters = refl; queued = refl });
  };
  changes = λ now t h. still_goes s e back t (record t { now = now })
      (record { links = h.links; parameters = h.parameters; queued = refl });
  closes = λ id t. still_goes s e back t (closing id t)
      (record { links = refl; parameters = refl; queued = refl });
  queues = λ id asker octets t. still_goes s e back t (queueing_own id asker octets t)
      (raw_still (Some id) asker octets t);
  disowns = disowned_goes s e back;
}

pub host_goes :
    (s : Setting) (e : End) (back : List Tagged) (event : HostEvent) (before after : Turn)
    → (h : IsHostTurn event before after) → Goes s e back before (host_steps (meant s) event before after h) after
host_goes s e back event before after h =
    any_kept (meant s) (Goes s e back) (goes_kept s e back) event before after h

pub ticks_go : (s : Setting) (e : End) (back : List Tagged) (busy : Bool) (turn : Turn)
    → Goes s e back turn (tick_steps (meant s) busy turn) (asked_links busy turn)
ticks_go s e back busy turn =
    ticks_kept (meant s) NotHeard (Goes s e back) (goes_kept s e back).kept.by_events tt busy turn
