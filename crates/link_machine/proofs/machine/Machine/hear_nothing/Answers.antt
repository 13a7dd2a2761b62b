use Rattle.link_machine.proofs.Common.{Turn, begin, settled}
use Rattle.link_machine.proofs.Events.{shows_begin, made}
use Rattle.link_machine.proofs.machine.Machine.hear_nothing.Goals as goal

pub returns : goal.returns
returns c = λ m h.
    let t : Turn = begin m in
    let shown = shows_begin c.args.self.now m c.in_ok-room.room _ _ c.in_ok-room.ensures h in
    made c.settle.new.self c.settle.new.room (settled t) c.finish.result (c.settle.ensures.shows t shown)
    c.finish.ensures.frames c.finish.ensures.told
