use Rattle.link_machine.proofs.Common.{Turn, begin, settled, hear_xid}
use Rattle.link_machine.proofs.Events.{shows_begin, made}
use Rattle.link_machine.proofs.machine.Machine.hear_xid.Goals as goal

pub returns : goal.returns
returns c = λ m h.
    let begun = shows_begin c.args.self.now m c.in_ok-room.room _ _ c.in_ok-room.ensures h in
    let t : Turn = hear_xid c.args.command c.args.flag c.args.octets.now (begin m) in
    let shown = c.take_xid.ensures.shows (begin m) c.args.octets.now begun (c.agreed-own.ensures.own m h)
    c.in_ok-answer.ensures in
    made c.settle.new.self c.settle.new.room (settled t) c.finish.result (c.settle.ensures.shows t shown)
    c.finish.ensures.frames c.finish.ensures.told
