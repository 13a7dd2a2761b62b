use Rattle.station_laws.proofs.OwnerLemmas.{owners_are_told}
use Rattle.station_laws.proofs.laws.owners_are_told.Goals as goal

pub returns : goal.returns
returns c = owners_are_told
