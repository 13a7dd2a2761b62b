-- A new run is under way, and what a whole one tells keeps the order.
use Rattle.channel_bench.proofs.Common.{refl, arith, BenchWords, new_bench, KeepsOrder}
use Rattle.std.proofs.Common.{Result, Ok, Err, IfOk}
use Rattle.channel_bench.specs.declared.report.BenchReport.{BenchReport}
use Rattle.channel_bench.specs.declared.report.BenchFault.{BenchFault}
use Rattle.channel_bench.proofs.OrderLaws.{bench_law_holds}
use Rattle.channel_bench.proofs.benching.bench.Goals as goal

pub finish-requires : goal.finish-requires
finish-requires c = (
  record {
    made = record {
      bench = new_bench c.args.words;
      stands = c.in_ok-run.ensures.stands_for;
      ticks = refl;
      no_trouble = refl;
      few = omega (arith, c.in_ok-run.ensures.ticks);
    };
    not_over = refl;
  },
  c.requires,
)

keeps : (w : BenchWords) (told : Result BenchReport BenchFault) → IfOk told (KeepsOrder w)
keeps w (Ok report) = bench_law_holds w report
keeps w (Err fault) = tt

pub returns-clause-order : goal.returns-clause-order
returns-clause-order c = keeps c.args.words _
