use Rattle.station.proofs.Common.{ℕ, Option, sym, ◌∙◌, ap, subst, OwnedLink, link_at, StandsForPlace}
use Rattle.station.specs.AgwRequests.{pending_at}
use Rattle.station.proofs.EventLemmas.{places-at}
use Rattle.station.proofs.PendingLemmas.{held_some, held_none}
use Rattle.station.proofs.link_table.LinkTable.pending.Goals as goal

pub returns-in-Some-get : goal.returns-in-Some-get
returns-in-Some-get c = λ links h.
    let key = c.in-Some.key in
    c.pending.ensures.count
    ∙ held_some c.in-Some-get.link.now (link_at key links)
    (subst (λ (held : Option OwnedLink). StandsForPlace held (link_at key links)) (sym c.in-Some-get.ensures)
    (places-at c.args.self.now.places links.places key h.places))
    ∙ ap (λ (own : Option ℕ). pending_at own links) (sym c.in-Some.is ∙ c.key_of.ensures links h)

pub returns-in-None : goal.returns-in-None
returns-in-None c = λ links h.
    let key = c.in-Some.key in
    held_none (link_at key links)
    (subst (λ (held : Option OwnedLink). StandsForPlace held (link_at key links)) (sym c.in-None.ensures)
    (places-at c.args.self.now.places links.places key h.places))
    ∙ ap (λ (own : Option ℕ). pending_at own links) (sym c.in-Some.is ∙ c.key_of.ensures links h)
