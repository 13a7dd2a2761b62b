-- What a run of the bench comes to depends on the words alone: its report if it is over, and else what ended it.
use Rattle.std.specs.Prelude.{◌≡◌, ◌≢◌, Result, Ok, Err}
use Rattle.channel_bench.specs.declared.report.BenchFault.{BenchFault}
use Rattle.channel_bench.specs.declared.report.BenchFault.TheVariants.{Memory}
use Rattle.channel_bench.specs.declared.words.BenchWords.{BenchWords}
use Rattle.channel_bench.specs.BenchRun.{IsFaultOf, IsOver}
use Rattle.channel_bench.specs.Report.{Report}

-- a run that the words ask for comes to this
abbrev pub ComesTo : BenchWords → Result Report BenchFault → Type 0
ComesTo w (Ok report) = IsOver w report
ComesTo w (Err fault) = IsFaultOf w fault

-- Two runs come to the same, unless memory was wanted in one of them, which can come at any time.
abbrev pub OneReport : Type 0
OneReport = (w : BenchWords) (one other : Result Report BenchFault) → ComesTo w one → ComesTo w other
    → one ≢ Err Memory → other ≢ Err Memory → one ≡ other
