use Rattle.link_machine.proofs.machine.Machine.withdraw.Goals as goal

pub returns-clause-shows : goal.returns-clause-shows
returns-clause-shows c = λ t h. c.end_call.ensures.shows _ (c.send_setup.ensures.shows t h)
