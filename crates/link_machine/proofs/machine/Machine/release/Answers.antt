use Rattle.link_machine.proofs.Common.{setting, releasing}
use Rattle.link_machine.proofs.Showing.{shows_control}
use Rattle.link_machine.proofs.machine.Machine.release.Goals as goal

pub returns-clause-shows : goal.returns-clause-shows
returns-clause-shows c = λ t h.
    c.send_setup.ensures.shows (setting releasing t)
    (shows_control releasing c.args.self.now c.release.new.self c.args.room.now t c.release.ensures h)
