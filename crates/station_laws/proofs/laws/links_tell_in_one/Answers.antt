use Rattle.station_laws.proofs.LinkTells.{links_tell_holds}
use Rattle.station_laws.proofs.laws.links_tell_in_one.Goals as goal

pub returns : goal.returns
returns c = links_tell_holds
