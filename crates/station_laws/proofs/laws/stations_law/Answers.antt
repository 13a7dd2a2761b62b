use Rattle.station_laws.proofs.Common.{changes_law_holds}
use Rattle.station_laws.proofs.JointLaw.{stations_law_holds}
use Rattle.station_laws.proofs.laws.stations_law.Goals as goal

pub returns : goal.returns
returns c = stations_law_holds changes_law_holds
