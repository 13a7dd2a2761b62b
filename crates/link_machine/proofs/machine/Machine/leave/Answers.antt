use Rattle.link_machine.proofs.Common.{emptied, narrowed, changing, stopped}
use Rattle.link_machine.proofs.Showing.{shows_control, shows_emptied, shows_in_modulus}
use Rattle.link_machine.proofs.machine.Machine.leave.Goals as goal

pub returns-clause-shows : goal.returns-clause-shows
returns-clause-shows c = λ room t h.
    let empty = shows_emptied c.args.self.now c.empty.new.self room t h c.empty.ensures.holds in
    let narrow = shows_in_modulus 8 c.empty.new.self c.narrow.new.self room (changing emptied t)
    empty c.narrow.ensures.holds in
    shows_control stopped c.narrow.new.self c.leave.new.self room (changing narrowed (changing emptied t))
    c.leave.ensures narrow
