use Rattle.station_laws.proofs.OneTurn.{one_turn_holds}
use Rattle.station_laws.proofs.laws.one_turn.Goals as goal

pub returns : goal.returns
returns c = one_turn_holds
