use Rattle.fx25_blocks.proofs.UnknownLaws.{near_read}
use Rattle.fx25_blocks.proofs.laws.near_block_is_read.Goals as goal

pub returns : goal.returns
returns c = near_read
