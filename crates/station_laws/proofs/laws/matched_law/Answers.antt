use Rattle.station_laws.proofs.Common.{changes_law_holds}
use Rattle.station_laws.proofs.MatchedLaws.{matched_law_holds}
use Rattle.station_laws.proofs.laws.matched_law.Goals as goal

pub returns : goal.returns
returns c = matched_law_holds changes_law_holds
