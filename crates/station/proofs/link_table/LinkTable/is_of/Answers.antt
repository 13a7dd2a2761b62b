use Rattle.station.proofs.Common.{Some, None, ◌∙◌, link_at}
use Rattle.station.proofs.OwnLemmas.{stands_at, owner_held, no_owner}
use Rattle.station.proofs.link_table.LinkTable.is_of.Goals as goal

pub returns-in-Some : goal.returns-in-Some
returns-in-Some c = λ links h.
    let key = c.args.key in
    c.is_of.ensures ∙ owner_held c.args.id c.in-Some.link.now (link_at key links)
    (stands_at c.args.self.now links key (Some c.in-Some.link.now) h c.in-Some.ensures)

pub returns-in-None : goal.returns-in-None
returns-in-None c = λ links h.
    let key = c.args.key in
    no_owner c.args.id (link_at key links) (stands_at c.args.self.now links key None h c.in-None.ensures)
