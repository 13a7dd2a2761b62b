use Rattle.station_laws.proofs.Common.{changes_law_holds}
use Rattle.station_laws.proofs.CallerLaws.{caller_law_holds}
use Rattle.station_laws.proofs.laws.caller_law.Goals as goal

pub returns : goal.returns
returns c = caller_law_holds changes_law_holds
