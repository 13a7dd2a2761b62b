use Rattle.host_ports.proofs.Common.{◌≡◌, ℕ, ◌++◌, take, drop, [], sym, ap, subst, ◌∙◌, arith, take-append-drop}
use Rattle.host_ports.proofs.Common.{Offering, InOrder, IsOffered, ids_of_clients}
use Rattle.std.proofs.Common.{List}
use Rattle.host_ports.proofs.AskedLemmas.{offered_nothing}
use Rattle.host_ports.proofs.ClientLemmas.{take_end}
use Rattle.host_ports.proofs.ResultLemmas.{on_err}
use Rattle.host_ports.proofs.OfferLemmas.{offers_more}
use Rattle.host_ports.proofs.host_parts.HostParts.offer_all.Goals as goal

pub loop-id-preserved : goal.loop-id-preserved
loop-id-preserved g c = record {
  offers = offers_more c.deref-id-items.result.now c.loop-id.id-index c.args.self.now c.loop-id.self c.offer_to.new.self
      _ _ _ c.loop-id-test.true c.loop-id.invariant.offers c.in_ok-offer_to.ensures.offers;
  rest = c.in_ok-offer_to.ensures.rest;
  listens = c.in_ok-offer_to.ensures.listens ∙ c.loop-id.invariant.listens;
  dials = c.in_ok-offer_to.ensures.dials ∙ c.loop-id.invariant.dials;
  later = let before = c.loop-id.invariant.later in let now = c.in_ok-offer_to.ensures.later in
      omega (arith, before, now);
}

pub returns-in_err-offer_to-clause-cut : goal.returns-in_err-offer_to-clause-cut
returns-in_err-offer_to-clause-cut g c = λ printed hosts h.
    let ids : List ℕ = c.deref-id-items.result.now in
    let parts : take c.loop-id.id-index ids ++ drop c.loop-id.id-index ids ≡ ids_of_clients hosts.clients =
    take-append-drop c.loop-id.id-index ids ∙ c.deref-id-items.ensures.value ∙ c.in_ok-ids.ensures
    ∙ ap ids_of_clients (sym h.clients) in
    let start : Offering = record { hosts = hosts; offers = []; failed = [] } in
    let o = c.loop-id.invariant.offers printed start h (offered_nothing _) in
    on_err c.from_residual-in_err-offer_to.result _ (
      take c.loop-id.id-index ids,
      drop c.loop-id.id-index ids,
      o.0,
      sym parts,
      o.1,
      c.in_err-offer_to.ensures.cut o.0.offers o.0.failed _ o.3,
    )

pub returns-clause-offers : goal.returns-clause-offers
returns-clause-offers g c = λ printed hosts h.
    let ids : List ℕ = c.deref-id-items.result.now in
    let all : take c.loop-id.id-index ids ≡ ids_of_clients hosts.clients =
    take_end ids c.loop-id.id-index c.loop-id-test.false ∙ c.deref-id-items.ensures.value ∙ c.in_ok-ids.ensures
    ∙ ap ids_of_clients (sym h.clients) in
    let start : Offering = record { hosts = hosts; offers = []; failed = [] } in
    let o = c.loop-id.invariant.offers printed start h (offered_nothing _) in
    (o.0, subst (λ some. InOrder IsOffered some start o.0) all o.1, o.2, o.3)
