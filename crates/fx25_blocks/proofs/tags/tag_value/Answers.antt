use Rattle.fx25_blocks.proofs.Common.{refl, tag_value}
use Rattle.fx25_blocks.proofs.tags.tag_value.Goals as goal

pub returns : goal.returns
unfolding tag_value
returns c = refl
