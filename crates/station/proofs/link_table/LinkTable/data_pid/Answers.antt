use Rattle.station.proofs.Common.{Some, None, ◌∙◌, link_at}
use Rattle.station.proofs.OwnLemmas.{stands_at, pid_held, no_pid}
use Rattle.station.proofs.link_table.LinkTable.data_pid.Goals as goal

pub returns-in-Some : goal.returns-in-Some
returns-in-Some c = λ links h.
    let key = c.args.key in
    c.pid_or.ensures ∙ pid_held c.args.pid c.in-Some.link.now (link_at key links)
    (stands_at c.args.self.now links key (Some c.in-Some.link.now) h c.in-Some.ensures)

pub returns-in-None : goal.returns-in-None
returns-in-None c = λ links h.
    let key = c.args.key in
    no_pid c.args.pid (link_at key links) (stands_at c.args.self.now links key None h c.in-None.ensures)
