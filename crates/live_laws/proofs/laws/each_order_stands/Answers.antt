use Rattle.live_laws.proofs.Standing.{each_order_stands_holds}
use Rattle.live_laws.proofs.laws.each_order_stands.Goals as goal

pub returns : goal.returns
returns c = each_order_stands_holds
