use Rattle.link_machine.proofs.machine.Machine.end_by_disc.Goals as goal

pub returns-clause-shows : goal.returns-clause-shows
returns-clause-shows c = λ t h.
    c.tell.ensures.shows _ (c.leave.ensures.shows c.send_setup.new.room _ (c.send_setup.ensures.shows t h))
