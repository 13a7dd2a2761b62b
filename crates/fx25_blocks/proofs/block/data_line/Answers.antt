use Rattle.fx25_blocks.proofs.Common.{ap, ◌∙◌, body, padded}
use Rattle.fx25_blocks.proofs.block.data_line.Goals as goal

pub returns : goal.returns
unfolding body padded
returns c = c.in_ok-line.ensures ∙ ap (λ frames. body frames 1 c.args.count) c.from_ref.ensures.value
