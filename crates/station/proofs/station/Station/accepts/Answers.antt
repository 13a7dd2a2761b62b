use Rattle.station.proofs.Common.{◌≡◌, ◌∙◌, List, ℕ, Option, IsTrue, ap, subst, arith, sym, StationState, StandsFor, Held}
use Rattle.station.specs.Owners.{own_waiting}
use Rattle.station.specs.State.{Accepts}
use Rattle.station.proofs.Standing.{few_places, places_few}
use Rattle.station.proofs.station.Station.accepts.Goals as goal

pub returns-then-own_waiting-lt-MOST_OWN-clause-accepts : goal.returns-then-own_waiting-lt-MOST_OWN-clause-accepts
returns-then-own_waiting-lt-MOST_OWN-clause-accepts c =
    let parts = c.self.inside.parts in
    let accepts : Held → Type 0 = λ held. (s : StationState) → StandsFor held s
    → (IsTrue c.hold_few.result → Accepts c.args.id s) × (Accepts c.args.id s → IsTrue c.hold_few.result) in
    subst accepts c.self.view_is (λ s h. (
      λ t. record {
        frames =
            let same : own_waiting c.args.id parts.owners.items ≡ own_waiting c.args.id s.owners =
            ap (λ (owners : List (Option ℕ)). own_waiting c.args.id owners) h.parts.owners in
            let own : c.own_waiting.result ≡ own_waiting c.args.id parts.owners.items =
            c.own_waiting.ensures ∙ ap (own_waiting c.args.id) c.deref.ensures.value in
            omega (arith, same, own, c.if-own_waiting-lt-MOST_OWN.true);
        links = few_places c.args.id parts.links.places s.links.places h.parts.links.places (c.hold_few.ensures.0 t);
      },
      λ a. c.hold_few.ensures.1 (places_few c.args.id parts.links.places s.links.places h.parts.links.places a.links),
    ))
