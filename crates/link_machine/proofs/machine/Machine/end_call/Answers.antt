use Rattle.link_machine.proofs.Common.{emptied, narrowed, changing, stopped_t1}
use Rattle.link_machine.proofs.Showing.{shows_control, shows_emptied, shows_in_modulus}
use Rattle.link_machine.proofs.machine.Machine.end_call.Goals as goal

pub returns-clause-shows : goal.returns-clause-shows
returns-clause-shows c = λ t h.
    let room = c.args.room.now in
    let empty = shows_emptied c.args.self.now c.empty.new.self room t h c.empty.ensures.holds in
    let narrow = shows_in_modulus 8 c.empty.new.self c.narrow.new.self room (changing emptied t)
    empty c.narrow.ensures.holds in
    let ended = changing narrowed (changing emptied t) in
    c.tell.ensures.shows _ (shows_control stopped_t1 c.narrow.new.self c.end_call.new.self room ended c.end_call.ensures
    narrow)
