use Rattle.station.proofs.Common.{◌≡◌, ℕ, true, false, nat_lt, is_some, Option, sym, ◌∙◌, ap, as_route, key_between}
use Rattle.station.proofs.Common.{is_number, registrar, Route}
use Rattle.station.proofs.CallingLemmas.{call-unregistered, call-linked, call-free}
use Rattle.station.proofs.HearLemmas.{key_found, links_counted}
use Rattle.station.proofs.parts.Parts.may_call.Goals as goal

pub returns-then-not-has_registered-clause-may : goal.returns-then-not-has_registered-clause-may
returns-then-not-has_registered-clause-may c = λ s h.
    let id = c.args.id in
    let route : Route = as_route c.args.route.now in
    let other : is_number id (registrar route.local s.registrations) ≡ false =
    ap (λ held. is_number id (registrar route.local held)) (sym h.registrations) ∙ sym c.has_registered.ensures
    ∙ c.if-not-has_registered.true in
    call-unregistered id route s other

pub returns-then-is_some-clause-may : goal.returns-then-is_some-clause-may
returns-then-is_some-clause-may c = λ s h.
    let id = c.args.id in
    let route : Route = as_route c.args.route.now in
    let own : is_number id (registrar route.local s.registrations) ≡ true =
    ap (λ held. is_number id (registrar route.local held)) (sym h.registrations) ∙ sym c.has_registered.ensures
    ∙ c.if-not-has_registered.false in
    let found : c.key_between.result ≡ key_between route.local route.remote s.links =
    c.key_between.ensures ∙ key_found c.args.self.now.links s.links route.local route.remote h.links in
    let linked : is_some (key_between route.local route.remote s.links) ≡ true =
    ap (λ (key : Option ℕ). is_some key) (sym found) ∙ sym c.is_some.ensures ∙ c.if-is_some.true in
    call-linked id route s own linked

pub returns-clause-may : goal.returns-clause-may
returns-clause-may c = λ s h.
    let id = c.args.id in
    let route : Route = as_route c.args.route.now in
    let own : is_number id (registrar route.local s.registrations) ≡ true =
    ap (λ held. is_number id (registrar route.local held)) (sym h.registrations) ∙ sym c.has_registered.ensures
    ∙ c.if-not-has_registered.false in
    let found : c.key_between.result ≡ key_between route.local route.remote s.links =
    c.key_between.ensures ∙ key_found c.args.self.now.links s.links route.local route.remote h.links in
    let free : is_some (key_between route.local route.remote s.links) ≡ false =
    ap (λ (key : Option ℕ). is_some key) (sym found) ∙ sym c.is_some.ensures ∙ c.if-is_some.false in
    c.has_room.ensures ∙ ap (λ n. nat_lt n 64) (links_counted c.args.self.now.links s.links h.links)
    ∙ call-free id route s own free
