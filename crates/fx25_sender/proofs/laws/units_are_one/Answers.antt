use Rattle.fx25_sender.proofs.UnitLemmas.{one_unit}
use Rattle.fx25_sender.proofs.laws.units_are_one.Goals as goal

pub returns : goal.returns
returns c = one_unit
