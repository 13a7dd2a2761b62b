use Rattle.sensitive_blocks.proofs.Common.{◌++◌}
use Rattle.sensitive_blocks.proofs.TakenLemmas.{taken_idle}
use Rattle.sensitive_blocks.proofs.hearing.hear_blocks.Goals as goal

pub returns-then-is_idle : goal.returns-then-is_idle
returns-then-is_idle c = λ x before read stands taken.
    taken_idle x c.args.bit.lane c.args.bit.end c.requires.lane read c.args.kept.now.items
    (before ++ c.args.given.now.items) (c.is_idle.ensures _ _ _ stands c.if-is_idle.true) taken
