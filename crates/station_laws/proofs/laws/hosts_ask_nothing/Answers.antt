use Rattle.station_laws.proofs.Asking.{hosts_ask_nothing_holds}
use Rattle.station_laws.proofs.laws.hosts_ask_nothing.Goals as goal

pub returns : goal.returns
returns c = hosts_ask_nothing_holds
