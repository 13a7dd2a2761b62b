use Rattle.sensitive_blocks.proofs.Common.{◌++◌, ◌∙◌, sym, true≢false}
use Rattle.sensitive_blocks.proofs.TakenLemmas.{taken_no_plain}
use Rattle.sensitive_blocks.proofs.hearing.hear_frame.Goals as goal

pub returns-else-plain : goal.returns-else-plain
returns-else-plain c = λ x before at read some one taken.
    taken_no_plain x c.args.bit.lane c.args.bit.end c.requires.lane read c.args.kept.now.items
    (before ++ c.args.given.now.items)
    (λ octets frame told. true≢false (sym (one octets frame).0 ∙ c.if-plain.false))
    taken
