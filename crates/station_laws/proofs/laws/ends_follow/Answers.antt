use Rattle.station_laws.proofs.JointLaw.{following_law_holds}
use Rattle.station_laws.proofs.laws.ends_follow.Goals as goal

pub returns : goal.returns
returns c = following_law_holds
