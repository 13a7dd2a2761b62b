use Rattle.link_machine.proofs.Common.{Turn, begin, disconnect, settled}
use Rattle.link_machine.proofs.Events.{shows_begin, made}
use Rattle.link_machine.proofs.machine.Machine.take_disconnect.Goals as goal

pub returns : goal.returns
returns c = λ m h.
    let begun = shows_begin c.args.self.now m c.in_ok-room.room _ _ c.in_ok-room.ensures h in
    let t : Turn = disconnect (begin m) in
    made c.settle.new.self c.settle.new.room (settled t) c.finish.result
    (c.settle.ensures.shows t (c.disconnect.ensures.shows (begin m) begun))
    c.finish.ensures.frames c.finish.ensures.told
