use Rattle.station_laws.proofs.Pieces.{programs_are_told_holds}
use Rattle.station_laws.proofs.laws.programs_are_told.Goals as goal

pub returns : goal.returns
returns c = programs_are_told_holds
