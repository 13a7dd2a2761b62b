use Rattle.fx25_receiver.proofs.Common.{◌≡◌, ◌+◌, ◌++◌, subst, arith, bits, HasTakenBelow}
use Rattle.fx25_receiver.proofs.hearing.hear_tags.Goals as goal

pub loop-below-init : goal.loop-below-init
loop-below-init c = λ x before at stands taken. taken

pub loop-below-preserved : goal.loop-below-preserved
unfolding bits
loop-below-preserved c = λ x before at stands taken.
    c.in_ok-hear_block.ensures x before at (c.block.ensures.frame _ _ stands.stands stands.knows)
    (c.block.ensures.none _ _ stands.stands stands.knows)
    (c.loop-below.invariant x before at stands taken)

pub returns : goal.returns
returns c = λ x before at stands taken.
    let past = c.loop-below-test.false in
    let most = c.loop-below.auto.below-end in
    let all : c.loop-below.below ≡ 11 = omega arith in
    subst (λ n. HasTakenBelow (n + 1) c.loop-below.kept.items x (before ++ c.loop-below.given.items)) all
    (c.loop-below.invariant x before at stands taken)
