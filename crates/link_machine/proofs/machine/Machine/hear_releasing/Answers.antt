use Rattle.link_machine.proofs.Common.{sym, ◌∙◌, ap, subst, Control, Turn, begin, hear_releasing, Made}
use Rattle.link_machine.proofs.Events.{shows_begin, made, settled_releasing}
use Rattle.link_machine.proofs.machine.Machine.hear_releasing.Goals as goal

pub returns : goal.returns
returns c = λ m h.
    let begun = shows_begin c.args.self.now m c.in_ok-room.room _ _ c.in_ok-room.ensures h in
    let state = sym (ap (λ (x : Control). x.state) h.stands.control) ∙ c.requires.state in
    let P : Turn → Type 0 = λ x. Made x c.take_releasing.new.self c.finish.result in
    subst P (sym (settled_releasing c.args.command c.args.kind.now (begin m) state))
    (made c.take_releasing.new.self c.take_releasing.new.room
    (hear_releasing c.args.command c.args.kind.now (begin m)) c.finish.result
    (c.take_releasing.ensures (begin m) begun) c.finish.ensures.frames c.finish.ensures.told)
