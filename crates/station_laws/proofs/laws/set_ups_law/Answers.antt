use Rattle.station_laws.proofs.SeenLemmas.{set_ups_law_holds}
use Rattle.station_laws.proofs.laws.set_ups_law.Goals as goal

pub returns : goal.returns
returns c = set_ups_law_holds
