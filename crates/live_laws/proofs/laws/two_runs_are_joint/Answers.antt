use Rattle.live_laws.proofs.RunFacts.{two_runs_are_joint_holds}
use Rattle.live_laws.proofs.laws.two_runs_are_joint.Goals as goal

pub returns : goal.returns
returns c = two_runs_are_joint_holds
