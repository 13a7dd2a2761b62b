use Rattle.fx25_receiver.proofs.Common.{◌++◌, bits}
use Rattle.fx25_receiver.proofs.TakenLemmas.{taken_idle}
use Rattle.fx25_receiver.proofs.hearing.hear_blocks.Goals as goal

pub returns-then-is_idle : goal.returns-then-is_idle
unfolding bits
returns-then-is_idle c = λ x before at stands taken.
    taken_idle c.args.place x at c.args.kept.now.items (before ++ c.args.given.now.items)
    (c.is_idle.ensures _ _ stands.stands c.if-is_idle.true) taken
