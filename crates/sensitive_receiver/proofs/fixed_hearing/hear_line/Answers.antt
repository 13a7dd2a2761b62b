use Rattle.sensitive_receiver.proofs.Common.{◌+◌, arith}
use Rattle.sensitive_receiver.proofs.FixedLines.{reads_line, reads_none, reads_on}
use Rattle.sensitive_receiver.proofs.fixed_hearing.hear_line.Goals as goal

pub loop-at-init : goal.loop-at-init
loop-at-init c =
    let near = c.first_turn-at.ensures.near in
    record {
      near = omega arith;
      turn = c.first_turn-at.ensures.turn;
      reads = reads_none c.args.number c.args.place c.args.line.now c.requires.number.0 c.requires.number.1
          c.first_turn-at.result c.args.lane.now c.args.found.now.items c.first_turn-at.ensures.near c.first_turn-at.ensures.turn;
      bounds = λ low under all. all;
    }

pub loop-at-preserved : goal.loop-at-preserved
loop-at-preserved c =
    let at = c.loop-at.at in
    let before = c.loop-at.invariant in
    let next = c.in_ok-at.ensures.next in
    let further = next.0 in
    record {
      near = next.1;
      turn = next.2;
      reads = reads_on c.args.number c.args.place c.args.line.now c.requires.number.0 c.requires.number.1
          c.args.place (c.args.place + at) (c.args.place + c.in_ok-at.at) c.args.lane.now c.loop-at.lane
          c.read_on.new.lane c.args.found.now.items c.loop-at.found.items c.read_on.new.found.items
          (omega arith) (omega arith) before.reads c.in_ok-at.ensures.read;
      bounds = λ low under all. c.in_ok-at.ensures.bounds low under (before.bounds low under all);
    }

pub returns-clause-read : goal.returns-clause-read
returns-clause-read c =
    let before = c.loop-at.invariant in
    let past = c.loop-at-test.false in
    reads_line c.args.number c.args.place c.args.line.now c.requires.number.0 c.requires.number.1 c.loop-at.at
    c.args.lane.now c.loop-at.lane c.args.found.now.items c.loop-at.found.items (omega arith) before.near before.turn
    before.reads
