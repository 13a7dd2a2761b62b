use Rattle.station_laws.proofs.MatchedOrder.{matched_in_order_holds}
use Rattle.station_laws.proofs.laws.matched_in_order.Goals as goal

pub returns : goal.returns
returns c = matched_in_order_holds
