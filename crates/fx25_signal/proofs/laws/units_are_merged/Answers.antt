use Rattle.fx25_signal.proofs.UnitLaw.{unit_law}
use Rattle.fx25_signal.proofs.laws.units_are_merged.Goals as goal

pub returns : goal.returns
returns c = unit_law
