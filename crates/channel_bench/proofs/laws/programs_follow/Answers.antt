use Rattle.channel_bench.proofs.OrderLaws.{programs_follow_holds}
use Rattle.channel_bench.proofs.laws.programs_follow.Goals as goal

pub returns : goal.returns
returns c = programs_follow_holds
