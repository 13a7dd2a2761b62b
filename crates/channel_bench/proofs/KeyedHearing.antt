-- When A's station in a bench hears a frame, all frames that wait there keep one key, and what a call modulo 128 sends
-- finds room.
use Rattle.channel_bench.proofs.Common.{◌≡◌, ℕ, true, List, None, is_none, sym, ap, ◌∙◌, subst, Callsign, way_back}
use Rattle.channel_bench.proofs.Common.{Path, Command, A, B, IsHeard, shown_to_hosts, key_between, no_layer_3}
use Rattle.channel_bench.proofs.Common.{StationState, Turn, call_at, LinkStep, heard_steps, Choice, [], ◌∷◌, Option}
use Rattle.channel_bench.proofs.Common.{Some}
use Rattle.channel_bench.proofs.Common.{Link, link_at, link_step, steps_at, steps_for, each_get, Idle, Calling, Up}
use Rattle.std.specs.List.{AllByRecursion as Each}
use Rattle.std.proofs.lemmas.Bool.{cond-true}
use Rattle.link_machine.specs.Event.{Event as LinkEvent}
use Rattle.link_machine.specs.Event.Event.{Hear as LinkHear}
use Rattle.channel_bench.proofs.KeyedSteps.{JoinsWide, none_there, wide_joins, wide_leaves}
use Rattle.channel_bench.proofs.OneKey.{HasNoLinks, Keyed, event_keyed, key_within, made_idle, made_keyed}
use Rattle.channel_bench.proofs.OwnLinks.{IsFromPartner, IsOwnPlace, OwnsAll, chosen, own_chosen}
use Rattle.station_laws.proofs.Chains.{HearsWell}
use Rattle.station_laws.proofs.HeardAs.{Heard, heard_as, only_shows, made_for}
use Rattle.station_laws.proofs.HeardAs.Heard.{passes, repeats, hears, hears_new}

-- there is no link, if there is none between the calls of a frame
none_between :
    (path : Path) (s : StationState) → path.dest ≡ call_at A → path.source ≡ call_at B → OwnsAll A s
    → key_between path.dest path.source s.links ≡ None → HasNoLinks s.links
none_between path s dest source owns vacant =
    none_there s owns
    (subst (λ (r : Callsign). is_none (key_between (call_at A) r s.links) ≡ true) source
    (subst (λ (l : Callsign). is_none (key_between l path.source s.links) ≡ true) dest (ap is_none vacant)))

-- ---- room for what a call modulo 128 sends

by_heard_joins :
    (octets : List ℕ) (t : Turn) (steps : Choice → List LinkStep) (u : Turn) → OwnsAll A t.now
    → IsFromPartner A octets → Keyed t.now → Heard octets t steps u → Each JoinsWide (steps (chosen A))
by_heard_joins octets t steps u owns from keyed passes = tt
by_heard_joins octets t steps u owns from keyed (repeats call k is) = tt
by_heard_joins octets t steps u owns from keyed (hears key len path frame begins found is) =
    wide_joins None key (LinkHear frame) t keyed
by_heard_joins octets t steps u owns from keyed (hears_new key id frame is vacant known new) =
    let calls = from frame.path is.len is.path in
    let path = way_back frame.path Command in
    wide_joins (Some path) key (LinkHear frame) (made_for key id frame t)
    (made_keyed key id no_layer_3 frame.path.dest frame.path.source path t new
    (none_between frame.path t.now calls.0 calls.1 owns vacant) keyed)

pub heard_joins :
    (octets : List ℕ) (t u : Turn) → OwnsAll A t.now → IsFromPartner A octets → Keyed t.now → (h : IsHeard octets t u)
    → Each JoinsWide (heard_steps (chosen A) octets t u h)
heard_joins octets t u owns from keyed h =
    let same = (only_shows h.path octets h.monitored t).now in
    by_heard_joins octets (shown_to_hosts h.path octets h.monitored t) (λ any. heard_steps any octets t u h) h.between
    (subst (OwnsAll A) (sym same) owns) from (subst Keyed (sym same) keyed) (heard_as octets t u h)

-- ---- the key

-- what is said of the events of A's link is said of this one
one_of :
    (P : LinkStep → Type 0) (anew : Option Path) (key : ℕ) (event : LinkEvent) (t : Turn) (link : Link)
    → link_at key t.now.links ≡ Some link → chosen A (Some link) ≡ true
    → Each P (steps_at (chosen A) anew key event t) → P (link_step anew key event t link)
one_of P anew key event t link at is all =
    let step : LinkStep = link_step anew key event t link in
    let here : steps_at (chosen A) anew key event t ≡ step ∷ [] =
    ap (steps_for (chosen A) anew key event t) at ∙ cond-true (chosen A (Some link)) (step ∷ []) [] is in
    (subst (Each P) here all).0

own_at : (key : ℕ) (s : StationState) (link : Link) → OwnsAll A s → link_at key s.links ≡ Some link
    → chosen A (Some link) ≡ true
own_at key s link owns at =
    own_chosen A link (subst (IsOwnPlace A) at (each_get (IsOwnPlace A) s.links.places key tt owns.links))

by_heard :
    (octets : List ℕ) (t : Turn) (steps : Choice → List LinkStep) (u : Turn) → t.now.digi ≡ None → OwnsAll A t.now
    → IsFromPartner A octets → Keyed t.now → Each HearsWell (steps (chosen A)) → Heard octets t steps u → Keyed u.now
by_heard octets t steps u digi owns from keyed well passes = keyed
by_heard octets t steps u digi owns from keyed well (repeats call k is) = absurd (cc)
by_heard octets t steps u digi owns from keyed well (hears key len path frame begins found is) =
    event_keyed key (LinkHear frame) t (wide_leaves key (LinkHear frame) t keyed (λ link at.
    let h = one_of HearsWell None key (LinkHear frame) t link at (own_at key t.now link owns at) well in
    record { unconnected = λ never. never; unasked = λ calling. h.0; right = λ up. h.1 })
    (λ link at never. absurd never)) keyed
by_heard octets t steps u digi owns from keyed well (hears_new key id frame is vacant known new) =
    let calls = from frame.path is.len is.path in
    let path = way_back frame.path Command in
    let made = made_for key id frame t in
    let none = none_between frame.path t.now calls.0 calls.1 owns vacant in
    let next = made_keyed key id no_layer_3 frame.path.dest frame.path.source path t new none keyed in
    let idle : (link : Link) → link_at key made.now.links ≡ Some link → link.machine.control.state ≡ Idle =
    λ link at. made_idle key id no_layer_3 frame.path.dest frame.path.source path t key link
    (key_within key t keyed new) none at in
    event_keyed key (LinkHear frame) made (wide_leaves key (LinkHear frame) made next (λ link at.
    record {
      unconnected = λ never. never;
      unasked = λ calling. let clash : Idle ≡ Calling = sym (idle link at) ∙ calling in absurd (cc);
      right = λ up. let clash : Idle ≡ Up = sym (idle link at) ∙ up in absurd (cc);
    }) (λ link at never. absurd never)) next

pub heard_keyed :
    (octets : List ℕ) (t u : Turn) → t.now.digi ≡ None → OwnsAll A t.now → IsFromPartner A octets → Keyed t.now
    → (h : IsHeard octets t u) → Each HearsWell (heard_steps (chosen A) octets t u h) → Keyed u.now
heard_keyed octets t u digi owns from keyed h well =
    let same = (only_shows h.path octets h.monitored t).now in
    subst (λ (v : Turn). Keyed v.now) (sym h.told)
    (by_heard octets (shown_to_hosts h.path octets h.monitored t) (λ any. heard_steps any octets t u h) h.between
    (ap (λ (s : StationState). s.digi) same ∙ digi) (subst (OwnsAll A) (sym same) owns) from
    (subst Keyed (sym same) keyed) well (heard_as octets t u h))
