use Rattle.link_machine.proofs.Common.{setting, calling}
use Rattle.link_machine.proofs.Showing.{shows_control}
use Rattle.link_machine.proofs.machine.Machine.call.Goals as goal

pub returns-clause-shows : goal.returns-clause-shows
returns-clause-shows c = λ t h.
    c.send_call.ensures.shows (setting calling t)
    (shows_control calling c.args.self.now c.call.new.self c.args.room.now t c.call.ensures h)
