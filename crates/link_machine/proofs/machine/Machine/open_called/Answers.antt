use Rattle.link_machine.proofs.Common.{refl, numbers, Up, fresh, emptied, in_modulus, in_state, changing}
use Rattle.link_machine.proofs.Showing.{shows_control, shows_fresh, shows_emptied, shows_in_modulus}
use Rattle.link_machine.proofs.machine.Machine.open_called.Goals as goal

pub returns-clause-shows : goal.returns-clause-shows
returns-clause-shows c = λ t h.
    let room = c.args.room.now in
    let modulus = numbers c.args.modulus in
    let begun = shows_fresh c.args.self.now c.begin.new.self room t h c.begin.ensures in
    let empty = shows_emptied c.begin.new.self c.empty.new.self room (changing fresh t) begun c.empty.ensures.holds in
    let anew = changing emptied (changing fresh t) in
    let counted = shows_in_modulus modulus c.empty.new.self c.count_in.new.self room anew empty c.count_in.ensures.holds
    in
    let up = shows_control (in_state Up) c.count_in.new.self _ room (changing (in_modulus modulus) anew) refl counted in
    c.tell.ensures.shows _ (c.send_setup.ensures.shows _ up)
