-- That a block begins to come in, as the register of a reader tells it. No public clause cites it.
use Rattle.std.specs.Prelude.{ℕ, ◌+◌, ◌*◌, ◌≤◌}
use Rattle.fx25_blocks.specs.Coming.{hold}
use Rattle.fx25_blocks.specs.Tags.{IsTag, bits_of_64, block_length, differing, tag_bits}

-- a tag ends with the last of so many bits taken, and its block still counts with so many bits more
pub record BeginsToCome (register taken more : ℕ) : Type 0 where
  pub tag : ℕ
  pub is_tag : IsTag tag
  pub whole : 64 ≤ taken
  pub sure : differing (bits_of_64 register) (tag_bits tag) ≤ 8
  pub within : more ≤ 8 * block_length tag + hold
