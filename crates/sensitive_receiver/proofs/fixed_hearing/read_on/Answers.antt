use Rattle.sensitive_receiver.proofs.Common.{◌+◌, arith}
use Rattle.sensitive_receiver.proofs.FixedLines.{reads_eight, reads_left}
use Rattle.sensitive_receiver.proofs.fixed_hearing.read_on.Goals as goal

pub returns-then-take_eight-clause-read : goal.returns-then-take_eight-clause-read
returns-then-take_eight-clause-read c =
    reads_eight c.args.number c.args.place c.args.line.now c.requires.number.0 c.requires.number.1 c.args.at
    (c.args.place + (c.args.at + 64)) c.args.lane.now c.take_eight.new.lane c.args.found.now.items c.requires.turn
    (omega arith) (c.take_eight.ensures.taken c.if-take_eight.true)

pub returns-clause-read : goal.returns-clause-read
returns-clause-read c =
    let p = c.args.place + c.args.at in
    reads_left c.args.number c.args.place c.args.line.now c.requires.number.0 c.requires.number.1 p (p + 8)
    (c.args.place + (c.args.at + 8)) c.args.lane.now c.take_eight.new.lane c.read_one.new.lane
    c.args.found.now.items c.read_one.new.found.items (c.take_eight.ensures.left c.if-take_eight.false)
    (omega arith) c.in_ok-read_one.ensures.read
