-- What the parts stand for, step by step.
use Rattle.host_ports.proofs.Common.{◌==◌, ◌&&◌, ◌||◌, Bool, true, false, not, List, filter, All, list_any, sym, ◌∙◌, ap}
use Rattle.host_ports.proofs.Common.{subst, arith, inl, inr, or_cases, or_left, or_right, cases_Bool, true≢false}
use Rattle.host_ports.proofs.Common.{HostEvent, ids_of, ids_after, StationState, Out, Turn, HostParts, ReportLine}
use Rattle.host_ports.proofs.Common.{AreParts, Moves, MovesBy, Narrows, IsKnown, IsAtRest, is_named, joins, leaves}
use Rattle.host_ports.proofs.Common.{Hosts, delivering, is_client_of, is_among, IsDelivered, IsStep, AllHaveLeft}
use Rattle.host_ports.proofs.Common.{is_within}
use Rattle.std.specs.Prelude.{◌≡◌, ℕ, ◌≤◌, length, refl}
use Rattle.station.specs.Held.{Held}
use Rattle.station.specs.StandsFor.{StandsFor as StandsForStation}
use Rattle.station.specs.Turn.{begin}
use Rattle.host_ports.specs.HeldHosts.{IsKnownBefore}
use Rattle.host_ports.proofs.NamedLemmas.{clients_without, ids_without, still_known, was_known}

-- ---- one after another

pub moves_then : (f g : Hosts → Hosts) (a b c : HostParts) → Moves f a b → Moves g b c
    → Moves (λ hosts. g (f hosts)) a c
moves_then f g a b c first second = λ printed hosts h. second printed (f hosts) (first printed hosts h)

pub moves_as : (f g : Hosts → Hosts) (a b : HostParts) → ((hosts : Hosts) → f hosts ≡ g hosts) → Moves f a b
    → Moves g a b
moves_as f g a b same moves = λ printed hosts h. subst (λ next. AreParts b printed next) (same hosts)
    (moves printed hosts h)

pub narrows_then : (a b c : HostParts) → Narrows a b → Narrows b c → Narrows a c
narrows_then a b c first second = record {
  station = second.station ∙ first.station;
  came = second.came ∙ first.came;
  named = λ id named. first.named id (second.named id named);
  pieces = λ pieces. second.pieces (first.pieces pieces);
  lighter = let e = first.lighter in let f = second.lighter in omega arith;
}

-- ---- a connection of which nothing is left

shared : (a b c : Bool) → ((a && b) || (a && c)) ≡ (a && (b || c))
shared true b c = refl
shared false b c = refl

pub named_without : (a b : HostParts) (id other : ℕ)
    → b.clients.items ≡ filter (λ client. not (client.id == id)) a.clients.items
    → b.leaving.items ≡ filter (λ one. not (one == id)) a.leaving.items
    → is_named other b ≡ (not (other == id) && is_named other a)
named_without a b id other clients leaving =
    ap (λ ls. list_any (is_client_of other) ls || is_among other b.leaving.items) clients
    ∙ ap (λ ids. list_any (is_client_of other) (filter (λ client. not (client.id == id)) a.clients.items) || is_among other ids)
    leaving
    ∙ ap (λ t. t || is_among other (filter (λ one. not (one == id)) a.leaving.items))
    (clients_without id other a.clients.items)
    ∙ ap (λ t. (not (other == id) && list_any (is_client_of other) a.clients.items) || t)
    (ids_without id other a.leaving.items)
    ∙ shared (not (other == id)) (list_any (is_client_of other) a.clients.items) (is_among other a.leaving.items)

-- ---- the station

-- what the station did, and then what was delivered of it
pub delivered : (step : Turn → Turn → Type 0) (out : Out) (a b c : HostParts)
    → ((s : StationState) → StandsForStation a.station s → (next : StationState)
    × step (begin s) (record { now = next; out = out }) × StandsForStation b.station next)
    → ((printed : List ReportLine) (hosts : Hosts) (next : StationState) → StandsForStation b.station next
    → AreParts a printed hosts → AreParts b printed (record hosts { station = next }))
    → Moves (delivering out) b c → MovesBy (IsDelivered step) a c
delivered step out a b c stood others moves = λ printed hosts h.
    let s = stood hosts.station h.station in
    let between : Hosts = record hosts { station = s.0 } in (
      delivering out between,
      record { next = s.0; out = out; made = s.1; delivered = refl },
      moves printed between (others printed hosts s.0 s.2 h),
    )

-- the parts with the station after its step
pub with_station : (a : HostParts) (station : Held) (printed : List ReportLine) (hosts : Hosts) (next : StationState)
    → StandsForStation station next → AreParts a printed hosts
    → AreParts (record a { station = station }) printed (record hosts { station = next })
with_station a station printed hosts next stands h = record {
  station = stands;
  came = h.came;
  clients = h.clients;
  untaken = h.untaken;
  report = h.report;
  to_shut = h.to_shut;
  leaving = h.leaving;
}

-- the station knows exactly who it should after an event
pub known_after : (event : HostEvent) (closed : List ℕ) (a b c : HostParts) → IsKnownBefore event a → b.came ≡ a.came
    → b.clients ≡ a.clients → b.leaving ≡ a.leaving → b.untaken ≡ a.untaken
    → ids_of b.station ≡ ids_after event closed (ids_of a.station) → Narrows b c
    → ((id : ℕ) → is_among id closed ≡ true → is_named id c ≡ false) → IsKnown c
known_after event closed a b c before came clients leaving untaken ids narrows gone =
    let same_station : ids_of c.station ≡ ids_after event closed (ids_of a.station) = ap ids_of narrows.station
    ∙ ids in
    record {
      known = λ id named.
          let was : is_named id a ≡ true =
          sym (ap (λ ls. list_any (is_client_of id) ls.items || is_among id b.leaving.items) clients
          ∙ ap (λ ids'. list_any (is_client_of id) a.clients.items || is_among id ids'.items) leaving)
          ∙ narrows.named id named in
          let not_closed : is_among id closed ≡ false = elim (cases_Bool (is_among id closed)) [
            | inl holds ↦ absurd (true≢false (sym named ∙ gone id holds))
            | inr fails ↦ fails
          ] in
          let stays : leaves id event ≡ false = elim (cases_Bool (leaves id event)) [
            | inl holds ↦ absurd (true≢false (sym was ∙ before.left id holds))
            | inr fails ↦ fails
          ] in
          let or_joins : (is_among id (ids_of a.station) || joins id event) ≡ true =
          elim (cases_Bool (joins id event)) [
            | inl holds ↦ or_right (is_among id (ids_of a.station)) (joins id event) holds
            | inr fails ↦ or_left (is_among id (ids_of a.station)) (joins id event) (before.known id was fails)
          ] in
          ap (is_among id) same_station ∙ still_known event closed (ids_of a.station) id not_closed stays or_joins;
      came = λ id known.
          let was : (is_among id (ids_of a.station) || joins id event) ≡ true =
          was_known event closed (ids_of a.station) id (sym (ap (is_among id) same_station) ∙ known) in
          ap (λ ranges. is_within id ranges.items) (narrows.came ∙ came)
          ∙ elim (or_cases (is_among id (ids_of a.station)) (joins id event) was)
          [ inl holds ↦ before.came id holds | inr holds ↦ before.joined id holds ];
      pieces = narrows.pieces (subst (λ u. All (λ one. length one.octets ≤ 17) u.items) (sym untaken) before.pieces);
    }

-- ---- the connections that were shut

pub stepped : (step : Turn → Turn → Type 0) (a b c : HostParts) → MovesBy (IsDelivered step) a b
    → MovesBy AllHaveLeft b c → MovesBy (IsStep step) a c
stepped step a b c first second = λ printed hosts h.
    let one = first printed hosts h in
    let two = second printed one.0 one.2 in
    (two.0, record { between = one.0; delivers = one.1; leave = two.1 }, two.2)

-- what is known stays known when nobody is named anew
pub rest_narrowed : (a b : HostParts) → Narrows a b → b.leaving ≡ a.leaving → IsAtRest a → IsAtRest b
rest_narrowed a b narrows leaving rest = record {
  known = record {
    known = λ id named. ap (λ station. is_among id (ids_of station)) narrows.station
        ∙ rest.known.known id (narrows.named id named);
    came = λ id known. ap (λ ranges. is_within id ranges.items) narrows.came
        ∙ rest.known.came id (sym (ap (λ station. is_among id (ids_of station)) narrows.station) ∙ known);
    pieces = narrows.pieces rest.known.pieces;
  };
  nobody_leaves = ap (λ ids. ids.items) leaving ∙ rest.nobody_leaves;
}
