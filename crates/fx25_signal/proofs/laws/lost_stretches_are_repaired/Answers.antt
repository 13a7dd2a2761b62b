use Rattle.fx25_signal.proofs.NearLaw.{lost_law}
use Rattle.fx25_signal.proofs.laws.lost_stretches_are_repaired.Goals as goal

pub returns : goal.returns
returns c = lost_law
