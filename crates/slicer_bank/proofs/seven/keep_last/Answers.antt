use Rattle.slicer_bank.proofs.Common.{◌∙◌, ap, ◌++◌}
use Rattle.slicer_bank.proofs.SevenLemmas.{seven_after_short, seven_after_long}
use Rattle.slicer_bank.proofs.seven.keep_last.Goals as goal

pub returns-then-block-lt7 : goal.returns-then-block-lt7
returns-then-block-lt7 c = λ x is.
    c.copy_from_slice.ensures.after ∙ seven_after_short x c.args.block.now c.bridge-bridge.result
    (c.bridge-bridge.ensures ∙ ap (λ t. t ++ c.args.block.now) is)

pub returns-else-block-lt7 : goal.returns-else-block-lt7
returns-else-block-lt7 c = λ x is. c.copy_from_slice-else-block-lt7.ensures.after
    ∙ seven_after_long x c.args.block.now c.if-block-lt7.false
