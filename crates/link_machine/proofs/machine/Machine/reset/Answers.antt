use Rattle.link_machine.proofs.Common.{Ended, Reset, telling}
use Rattle.link_machine.proofs.Showing.{shows_fresh, shows_emptied}
use Rattle.link_machine.proofs.machine.Machine.reset.Goals as goal

pub returns-clause-shows : goal.returns-clause-shows
returns-clause-shows c = λ t h.
    let told = c.tell.ensures.shows t h in
    let begun = shows_fresh c.args.self.now c.begin.new.self c.tell.new.room (telling (Ended Reset) t)
    told c.begin.ensures in
    let empty = shows_emptied c.begin.new.self c.empty.new.self c.tell.new.room _ begun c.empty.ensures.holds in
    c.call.ensures.shows _ empty
