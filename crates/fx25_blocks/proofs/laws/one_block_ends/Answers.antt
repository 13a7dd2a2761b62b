use Rattle.fx25_blocks.proofs.BlockLaws.{one_block}
use Rattle.fx25_blocks.proofs.laws.one_block_ends.Goals as goal

pub returns : goal.returns
returns c = one_block
