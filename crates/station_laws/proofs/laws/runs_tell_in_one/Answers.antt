use Rattle.station_laws.proofs.RunTells.{runs_tell_holds}
use Rattle.station_laws.proofs.laws.runs_tell_in_one.Goals as goal

pub returns : goal.returns
returns c = runs_tell_holds
