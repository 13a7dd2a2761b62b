use Rattle.link_world.proofs.Untagging.{untagged-step}
use Rattle.link_world.proofs.laws.tags_do_not_matter.Goals as goal

pub returns : goal.returns
returns c = untagged-step
