use Rattle.fx25_blocks.proofs.UnsureLaws.{near_unsure}
use Rattle.fx25_blocks.proofs.laws.near_block_ends_too.Goals as goal

pub returns : goal.returns
returns c = near_unsure
