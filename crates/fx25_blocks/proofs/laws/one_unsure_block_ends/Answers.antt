use Rattle.fx25_blocks.proofs.UnsureLaws.{one_unsure}
use Rattle.fx25_blocks.proofs.laws.one_unsure_block_ends.Goals as goal

pub returns : goal.returns
returns c = one_unsure
