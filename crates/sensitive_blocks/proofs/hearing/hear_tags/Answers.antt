use Rattle.sensitive_blocks.proofs.Common.{◌≡◌, ◌+◌, ◌++◌, arith}
use Rattle.sensitive_blocks.proofs.TakenLemmas.{taken_tags}
use Rattle.sensitive_blocks.proofs.hearing.hear_tags.Goals as goal

pub loop-below-init : goal.loop-below-init
loop-below-init c = λ x before read stands taken. taken

pub loop-below-preserved : goal.loop-below-preserved
loop-below-preserved c = λ x before read stands taken.
    c.in_ok-hear_block.ensures x before read stands (c.block.ensures.frame _ _ _ stands) (c.block.ensures.none _ _ _ stands)
    (c.loop-below.invariant x before read stands taken)

pub returns : goal.returns
returns c = λ x before read stands taken.
    let past = c.loop-below-test.false in
    let most = c.loop-below.auto.below-end in
    let all : c.loop-below.below ≡ 11 = omega arith in
    taken_tags x c.args.bit.lane c.args.bit.end c.requires.lane read c.loop-below.kept.items
    (before ++ c.loop-below.given.items) (c.loop-below.below + 1) (omega arith) (omega arith)
    (c.loop-below.invariant x before read stands taken)
