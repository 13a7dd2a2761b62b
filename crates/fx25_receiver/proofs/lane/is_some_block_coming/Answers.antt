use Rattle.fx25_receiver.proofs.Common.{arith}
use Rattle.fx25_receiver.proofs.ComingLemmas.{comes_there, none_more, none_comes}
use Rattle.fx25_receiver.proofs.lane.is_some_block_coming.Goals as goal

pub returns-then-is_block_coming : goal.returns-then-is_block_coming
returns-then-is_block_coming c = λ x stand.
    comes_there c.args.lanes.now c.loop-lane.lane-index c.lane-item.result c.is_block_coming.result c.requires
    (let l = c.loop-lane-test.true in let n = c.requires in omega arith) c.lane-item.is
    c.is_block_coming.ensures x stand c.if-is_block_coming.true

pub loop-lane-preserved : goal.loop-lane-preserved
loop-lane-preserved c = λ x stand.
    none_more c.args.lanes.now c.loop-lane.lane-index c.lane-item.result c.is_block_coming.result c.requires
    (let l = c.loop-lane-test.true in let n = c.requires in omega arith) c.lane-item.is
    c.is_block_coming.ensures x stand c.if-is_block_coming.false (c.loop-lane.invariant x stand)

pub returns : goal.returns
returns c = λ x stand.
    none_comes x (λ k small. c.loop-lane.invariant x stand k
    (let past = c.loop-lane-test.false in let n = c.requires in omega arith))
