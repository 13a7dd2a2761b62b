use Rattle.channel_bench.proofs.OrderLaws.{bench_law_holds}
use Rattle.channel_bench.proofs.laws.bench_law.Goals as goal

pub returns : goal.returns
returns c = bench_law_holds
