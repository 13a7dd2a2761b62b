use Rattle.link_machine.proofs.Common.{narrowed, changing, setting, unretried_call}
use Rattle.link_machine.proofs.Showing.{shows_control, shows_in_modulus}
use Rattle.link_machine.proofs.machine.Machine.call_narrow.Goals as goal

pub returns-clause-shows : goal.returns-clause-shows
returns-clause-shows c = λ t h.
    let room = c.args.room.now in
    let narrow = shows_in_modulus 8 c.args.self.now c.narrow.new.self room t h c.narrow.ensures.holds in
    c.send_setup.ensures.shows (setting unretried_call (changing narrowed t))
    (shows_control unretried_call c.narrow.new.self c.call_anew.new.self room (changing narrowed t)
    c.call_anew.ensures narrow)
