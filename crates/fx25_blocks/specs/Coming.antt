-- When a block is coming in, for a station that waits until the channel is free: from the last bit of its tag to 64 bits
-- past its end. Only a tag of which at most 8 bits are wrong tells so: noise makes one with 12 often enough to hold a
-- channel for no reason.
use Rattle.std.specs.Prelude.{◌≡◌, ℕ, ◌+◌, ◌*◌, ◌≤◌, Bool, List, ◌++◌, length}
use Rattle.fx25_blocks.specs.Tags.{IsTag, block_length, differing, tag_bits}

-- the bits of the longest gap between the end of a block and what follows it in a transmission
abbrev pub hold : ℕ
hold = 64

-- 64 bits that differ from a tag in at most 8
pub record IsSureTag (tag : ℕ) (heard : List Bool) : Type 0 where
  pub size : length heard ≡ 64
  pub near : differing heard (tag_bits tag) ≤ 8

-- With so many bits more, a block whose tag has come in these bits is still coming in, or was over at most 64 bits ago.
pub record IsComingFor (more : ℕ) (bits : List Bool) : Type 0 where
  pub tag : ℕ
  pub before : List Bool
  pub heard : List Bool
  pub rest : List Bool
  pub is_tag : IsTag tag
  pub bits_are : bits ≡ before ++ (heard ++ rest)
  pub sure : IsSureTag tag heard
  pub within : length rest + more ≤ 8 * block_length tag + hold

-- a block is coming in with the last of these bits, or was over at most 64 bits ago
abbrev pub IsBlockComing : List Bool → Type 0
IsBlockComing bits = IsComingFor 0 bits
