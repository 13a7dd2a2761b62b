use Rattle.live_laws.proofs.RunFacts.{takes_what_is_said_holds}
use Rattle.live_laws.proofs.laws.takes_what_is_said.Goals as goal

pub returns : goal.returns
returns c = takes_what_is_said_holds
