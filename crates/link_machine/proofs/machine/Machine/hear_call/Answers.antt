use Rattle.link_machine.proofs.Common.{sym, subst, numbers, Ended, Reset, Turn, begin, telling, open_again, Made}
use Rattle.link_machine.proofs.Events.{shows_begin, made, settled_open}
use Rattle.link_machine.proofs.machine.Machine.hear_call.Goals as goal

pub returns : goal.returns
returns c = λ m h.
    let begun = shows_begin c.args.self.now m c.in_ok-room.room _ _ c.in_ok-room.ensures h in
    let t = telling (Ended Reset) (begin m) in
    let P : Turn → Type 0 = λ x. Made x c.open_again.new.self c.finish.result in
    subst P (sym (settled_open (numbers c.args.modulus) c.args.flag t))
    (made c.open_again.new.self c.open_again.new.room (open_again (numbers c.args.modulus) c.args.flag (begin m))
    c.finish.result (c.open_again.ensures.shows (begin m) begun) c.finish.ensures.frames c.finish.ensures.told)
