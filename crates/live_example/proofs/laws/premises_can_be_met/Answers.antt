use Rattle.live_example.proofs.Worked.{premises_can_be_met_holds}
use Rattle.live_example.proofs.laws.premises_can_be_met.Goals as goal

pub returns : goal.returns
returns c = premises_can_be_met_holds
