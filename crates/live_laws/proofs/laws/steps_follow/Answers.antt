use Rattle.live_laws.proofs.RunFacts.{steps_follow_holds}
use Rattle.live_laws.proofs.laws.steps_follow.Goals as goal

pub returns : goal.returns
returns c = steps_follow_holds
