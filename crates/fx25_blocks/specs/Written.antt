-- What the writer of blocks makes of bits.
use Rattle.std.specs.Prelude.{◌≡◌, ℕ, ◌<◌, Bool, List, ◌++◌, length, take, All}
use Rattle.hdlc_framer.specs.BitOrder.{sent_bits}
use Rattle.fx25_blocks.specs.Blocks.{IsBlockCodeword}
use Rattle.fx25_blocks.specs.Tags.{block_length, data_count, tag_bits}

-- a block that carries these bits
pub record Carries (tag : ℕ) (bits : List Bool) (block : List ℕ) : Type 0 where
  pub size : length block ≡ block_length tag
  pub octets : All (λ octet. octet < 256) block
  pub carried : sent_bits (take (data_count tag) block) ≡ bits
  pub codeword : IsBlockCodeword tag block

-- a tag and such a block as they are sent
pub record IsWritten (tag : ℕ) (carried bits : List Bool) : Type 0 where
  pub block : List ℕ
  pub carries : Carries tag carried block
  pub bits_are : bits ≡ tag_bits tag ++ sent_bits block
