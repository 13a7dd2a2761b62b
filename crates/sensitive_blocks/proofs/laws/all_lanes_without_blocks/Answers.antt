use Rattle.sensitive_blocks.proofs.WithoutBlocks.{merged_plain}
use Rattle.sensitive_blocks.proofs.laws.all_lanes_without_blocks.Goals as goal

pub returns : goal.returns
returns c = merged_plain
