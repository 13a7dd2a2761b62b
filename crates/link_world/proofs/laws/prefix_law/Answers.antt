use Rattle.link_world.proofs.law.runs.WorldLaw.{prefix_law_holds}
use Rattle.link_world.proofs.laws.prefix_law.Goals as goal

pub returns : goal.returns
returns c = prefix_law_holds
