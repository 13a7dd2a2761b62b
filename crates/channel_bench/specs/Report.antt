-- What is told of a run that is over.
use Rattle.std.specs.Prelude.{ℕ, List}
use Rattle.channel_bench.specs.declared.report.SetUp.{SetUp}

pub record Report : Type 0 where
  pub ticks : ℕ
  -- how many transmissions began, and how many of them were lost
  pub transmissions : ℕ
  pub lost : ℕ
  -- the set-ups of each side, in order
  pub a : List SetUp
  pub b : List SetUp
