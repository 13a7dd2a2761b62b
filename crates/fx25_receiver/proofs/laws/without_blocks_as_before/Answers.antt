use Rattle.fx25_receiver.proofs.WithoutBlocks.{merged_plain}
use Rattle.fx25_receiver.proofs.laws.without_blocks_as_before.Goals as goal

pub returns : goal.returns
returns c = merged_plain
