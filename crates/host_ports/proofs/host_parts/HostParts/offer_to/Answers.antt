use Rattle.host_ports.proofs.Common.{◌≡◌, refl, sym, ap, subst, ◌∙◌, inl, inr, cases_eq, on_ok_weaker, HostParts, Client}
use Rattle.host_ports.proofs.Common.{after_sending}
use Rattle.std.proofs.Common.{Err}
use Rattle.host_ports.proofs.DeliverLemmas.{stands_at, waits_at, waits_narrows, stands_still}
use Rattle.host_ports.proofs.ClientLemmas.{some_wait}
use Rattle.host_ports.proofs.MoveLemmas.{rest_narrowed}
use Rattle.host_ports.proofs.OfferLemmas.{offers_part, offers_in_vain}
use Rattle.host_ports.proofs.host_parts.HostParts.offer_to.Goals as goal

pub returns-in-Ok-clause-offers : goal.returns-in-Ok-clause-offers
returns-in-Ok-clause-offers g c =
    let a : HostParts = c.args.self.now in
    let client : Client = c.index_mut.result.now in
    let there = stands_at c.args.id c.in-Some.at client _ a.clients.items c.deref.ensures.value c.index_mut.ensures.value
    (c.in-Some.ensures.client client) (c.in-Some.ensures.id client) (λ waiting. c.in-Some.ensures.waiting waiting client) in
    let some = some_wait c.in-Some.at client c.index.result.now _ a.clients.items c.deref.ensures.value
    c.in-Some.ensures.within c.index_mut.ensures.value c.index.ensures (sym c.is_empty.ensures ∙ c.if-is_empty.false) in
    let waits = waits_at c.args.id c.in-Some.at client c.offer.new.waiting (after_sending c.in-Ok.field-0 client.waiting) a
    there c.in-Ok.ensures.rest.1 in
    offers_part c.args.id client c.in-Ok.field-0 a _ _ _ there.found there.same some c.in-Ok.ensures.rest.0 waits
    c.in-Ok.ensures.polls c.in-Ok.ensures.told c.in-Ok.ensures.sent c.in-Ok.ensures.others c.in-Ok.ensures.shut
    c.in-Ok.ensures.later

pub returns-in-Ok-clause-rest : goal.returns-in-Ok-clause-rest
returns-in-Ok-clause-rest g c =
    let a : HostParts = c.args.self.now in
    let client : Client = c.index_mut.result.now in
    let there = stands_at c.args.id c.in-Some.at client _ a.clients.items c.deref.ensures.value c.index_mut.ensures.value
    (c.in-Some.ensures.client client) (c.in-Some.ensures.id client) (λ waiting. c.in-Some.ensures.waiting waiting client) in
    let waits = waits_at c.args.id c.in-Some.at client c.offer.new.waiting (after_sending c.in-Ok.field-0 client.waiting) a
    there c.in-Ok.ensures.rest.1 in
    rest_narrowed a _ (waits_narrows c.args.id (after_sending c.in-Ok.field-0 client.waiting) a _ waits) refl
    c.requires.rest

pub returns-in-Err-Failed-clause-offers : goal.returns-in-Err-Failed-clause-offers
returns-in-Err-Failed-clause-offers g c =
    let a : HostParts = c.args.self.now in
    let client : Client = c.index_mut.result.now in
    let there = stands_at c.args.id c.in-Some.at client _ a.clients.items c.deref.ensures.value c.index_mut.ensures.value
    (c.in-Some.ensures.client client) (c.in-Some.ensures.id client) (λ waiting. c.in-Some.ensures.waiting waiting client) in
    let some = some_wait c.in-Some.at client c.index.result.now _ a.clients.items c.deref.ensures.value
    c.in-Some.ensures.within c.index_mut.ensures.value c.index.ensures (sym c.is_empty.ensures ∙ c.if-is_empty.false) in
    let waits = waits_at c.args.id c.in-Some.at client c.offer.new.waiting client.waiting a there
    c.in-Err-Failed.ensures.kept in
    λ printed before start h was.
    on_ok_weaker c.cut_off.result
    (λ moves. offers_in_vain c.args.id client a c.cut_off.new.self _ _ there.found there.same some
    (λ shown hosts stands. moves shown hosts
    (stands_still c.args.id client a _ shown hosts there.found waits stands))
    c.in-Err-Failed.ensures.polls c.in-Err-Failed.ensures.refused.1
    (λ other. elim (cases_eq other c.args.id) [
      | inl is ↦ subst (λ n. (g.N.Ports.told c.offer.new.ports).sent n ≡ (g.N.Ports.told c.args.ports.now).sent n) (sym is)
          c.in-Err-Failed.ensures.refused.0
      | inr isnt ↦ c.in-Err-Failed.ensures.others other isnt
    ])
    c.in-Err-Failed.ensures.shut (c.in-Err-Failed.ensures.failed (ap (λ f. Err f) c.in-Err-Failed.field-0-is))
    c.in-Err-Failed.ensures.later printed before start h was)
    c.cut_off.ensures.moves
