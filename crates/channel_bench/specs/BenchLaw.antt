-- The law on a bench: in each set-up a host program got a first part of what its partner gave in the set-up that is its
-- origin, and origins come in order.
use Rattle.channel_bench.specs.declared.words.BenchWords.{BenchWords}
use Rattle.link_world.specs.declared.end.End.TheVariants.{A, B}
use Rattle.channel_bench.specs.BenchOrder.{SawSetUps, steps_of_run, the_calls}
use Rattle.channel_bench.specs.BenchRun.{IsOver}
use Rattle.channel_bench.specs.BenchState.{BenchState}
use Rattle.channel_bench.specs.KeepsOrder.{KeepsOrder}
use Rattle.channel_bench.specs.Report.{Report}
use Rattle.station_laws.specs.SetUpsSeen.{AllGivenWhileUp}

-- The host programs gave packets only while the link was up, and saw its set-ups.
pub record IsFollowed (bench : BenchState) : Type 0 where
  pub given : AllGivenWhileUp the_calls (steps_of_run bench)
  pub seen_a : SawSetUps A bench
  pub seen_b : SawSetUps B bench

-- So it is in each run that is over.
abbrev pub ProgramsFollow : Type 0
ProgramsFollow = (w : BenchWords) (report : Report) (over : IsOver w report) → IsFollowed over.bench

-- And the host programs got in order what was given.
abbrev pub BenchLaw : Type 0
BenchLaw = (w : BenchWords) (report : Report) → KeepsOrder w report
