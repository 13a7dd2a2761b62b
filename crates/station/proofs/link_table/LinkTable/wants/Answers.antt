use Rattle.station.proofs.Common.{sym, subst, Option, OwnedLink, link_at, StandsForPlace}
use Rattle.station.proofs.AskLemmas.{place_wants, none_wants}
use Rattle.station.proofs.EventLemmas.{places-at}
use Rattle.station.proofs.link_table.LinkTable.wants.Goals as goal

pub returns-in-Some : goal.returns-in-Some
returns-in-Some c = λ links h.
    let key = c.args.key in
    place_wants c.wants.result c.in-Some.link.now (link_at key links)
    (subst (λ (slot : Option OwnedLink). StandsForPlace slot (link_at key links)) (sym c.in-Some.ensures)
    (places-at c.args.self.now.places links.places key h.places))
    c.wants.ensures

pub returns-in-None : goal.returns-in-None
returns-in-None c = λ links h.
    let key = c.args.key in
    none_wants (link_at key links)
    (subst (λ (slot : Option OwnedLink). StandsForPlace slot (link_at key links)) (sym c.in-None.ensures)
    (places-at c.args.self.now.places links.places key h.places))
