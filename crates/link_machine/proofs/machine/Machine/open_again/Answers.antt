use Rattle.link_machine.proofs.machine.Machine.open_again.Goals as goal

pub returns-clause-shows : goal.returns-clause-shows
returns-clause-shows c = λ t h.
    c.open_called.ensures.shows _ (c.tell.ensures.shows t h)
