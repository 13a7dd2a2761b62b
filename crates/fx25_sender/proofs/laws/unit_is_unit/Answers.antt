use Rattle.fx25_sender.proofs.UnitLemmas.{unit_is}
use Rattle.fx25_sender.proofs.laws.unit_is_unit.Goals as goal

pub returns : goal.returns
returns c = unit_is
