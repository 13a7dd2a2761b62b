-- When a block is coming in, in samples.
use Rattle.std.specs.Prelude.{ℕ, ◌<◌, ℤ, List}
use Rattle.offset_slicers.specs.Windows.{bits}
use Rattle.fx25_blocks.specs.Coming.{IsBlockComing}

-- a block is coming in with the last bit of some lane, or was over at most 64 of its bits ago
pub record HearsBlock (x : List ℤ) : Type 0 where
  pub offset : ℕ
  pub small : offset < 8
  pub coming : IsBlockComing (bits offset x)
