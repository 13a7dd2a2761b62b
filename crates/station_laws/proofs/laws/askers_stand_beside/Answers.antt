use Rattle.station_laws.proofs.Beside.{askers_stand_beside}
use Rattle.station_laws.proofs.laws.askers_stand_beside.Goals as goal

pub returns : goal.returns
returns c = askers_stand_beside
