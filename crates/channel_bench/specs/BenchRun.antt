-- A run of the bench: tick after tick, until it is over, or something ends it, or it has taken too long.
use Rattle.std.specs.Prelude.{◌≡◌, ◌≤◌, ℕ, zero, suc, ◌&&◌, Bool, true, false, Some, None}
use Rattle.channel_bench.specs.declared.report.BenchFault.{BenchFault}
use Rattle.channel_bench.specs.declared.report.BenchFault.TheVariants.{Stray, NotQuiet, Spent, Memory}
use Rattle.channel_bench.specs.declared.trouble.Trouble.{Trouble}
use Rattle.channel_bench.specs.declared.trouble.Trouble.TheVariants.{Stray as Strays, Unquiet}
use Rattle.channel_bench.specs.declared.words.BenchWords.{BenchWords}
use Rattle.channel_bench.specs.BenchState.{BenchState, new_bench}
use Rattle.channel_bench.specs.BenchTick.{IsTick}
use Rattle.channel_bench.specs.HostProgram.{set_ups_of}
use Rattle.channel_bench.specs.Report.{Report}
use Rattle.channel_bench.specs.Words.{most_ticks}

-- A has sent d, and both host programs were told d after it
abbrev pub is_over : BenchState → Bool
is_over bench = bench.closing && (bench.a.program.told && bench.b.program.told)

-- nothing has ended the run, and it is not over
pub record IsUnderWay (bench : BenchState) : Type 0 where
  pub no_trouble : bench.common.trouble ≡ None
  pub not_over : is_over bench ≡ false

-- so many ticks, each but the first after one with which the run was under way
abbrev pub AreTicks : BenchWords → ℕ → BenchState → Type 0
AreTicks w zero bench = bench ≡ new_bench w
AreTicks w (suc count) bench =
    (before : BenchState) × AreTicks w count before × IsUnderWay before × IsTick w before bench

abbrev pub report_of : BenchState → Report
report_of bench = record {
  ticks = bench.ticks;
  transmissions = bench.common.transmissions;
  lost = bench.common.lost;
  a = set_ups_of bench.a.program;
  b = set_ups_of bench.b.program;
}

-- a run that is over in time, and what is told of it
pub record IsOver (w : BenchWords) (report : Report) : Type 0 where
  pub count : ℕ
  pub in_time : count ≤ most_ticks w.octets
  pub bench : BenchState
  pub ticks : AreTicks w count bench
  pub no_trouble : bench.common.trouble ≡ None
  pub over : is_over bench ≡ true
  pub told : report ≡ report_of bench

-- a run that something ended in time
pub record IsEndedBy (w : BenchWords) (trouble : Trouble) : Type 0 where
  pub count : ℕ
  pub in_time : count ≤ most_ticks w.octets
  pub bench : BenchState
  pub ticks : AreTicks w count bench
  pub is : bench.common.trouble ≡ Some trouble

-- a run that is not over after the most ticks that it may take
pub record IsSpent (w : BenchWords) (ticks : ℕ) : Type 0 where
  pub most : ticks ≡ most_ticks w.octets
  pub bench : BenchState
  pub made : AreTicks w ticks bench
  pub under_way : IsUnderWay bench

-- each fault with its run; want of memory can come at any time
abbrev pub IsFaultOf : BenchWords → BenchFault → Type 0
IsFaultOf w (Stray octets) = IsEndedBy w (Strays octets)
IsFaultOf w (NotQuiet index) = IsEndedBy w (Unquiet index)
IsFaultOf w (Spent ticks) = IsSpent w ticks
IsFaultOf w Memory = Unit {0}
