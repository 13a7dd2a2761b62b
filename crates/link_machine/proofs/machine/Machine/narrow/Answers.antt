use Rattle.link_machine.proofs.machine.Machine.narrow.Goals as goal

pub returns-clause-holds : goal.returns-clause-holds
returns-clause-holds c = c.count_in.ensures.holds

pub returns-clause-control : goal.returns-clause-control
returns-clause-control c = c.count_in.ensures.control
