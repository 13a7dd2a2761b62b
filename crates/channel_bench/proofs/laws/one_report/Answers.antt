use Rattle.channel_bench.proofs.OneReport.{one_report_holds}
use Rattle.channel_bench.proofs.laws.one_report.Goals as goal

pub returns : goal.returns
returns c = one_report_holds
