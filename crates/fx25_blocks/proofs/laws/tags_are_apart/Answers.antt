use Rattle.fx25_blocks.proofs.TagDistance.{tags_apart}
use Rattle.fx25_blocks.proofs.laws.tags_are_apart.Goals as goal

pub returns : goal.returns
returns c = tags_apart
