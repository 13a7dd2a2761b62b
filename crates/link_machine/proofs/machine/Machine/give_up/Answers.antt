use Rattle.link_machine.proofs.Showing.{shows_emptied}
use Rattle.link_machine.proofs.machine.Machine.give_up.Goals as goal

pub returns-clause-shows : goal.returns-clause-shows
returns-clause-shows c = λ t h.
    c.release.ensures.shows _
    (shows_emptied c.args.self.now c.empty.new.self c.args.room.now t h c.empty.ensures.holds)
