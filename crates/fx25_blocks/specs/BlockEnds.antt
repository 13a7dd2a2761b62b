-- A block that ends with the last of some bits, and the frame in it.
use Rattle.std.specs.Prelude.{◌≡◌, ℕ, ◌+◌, ◌*◌, ◌<◌, ◌≤◌, Bool, List, ◌++◌, length, take, All}
use Rattle.hdlc_framer.specs.BitOrder.{sent_bits}
use Rattle.hdlc_framer.specs.Body.{flags}
use Rattle.hdlc_framer.specs.Frames.{IsFrame, frame_bits}
use Rattle.hdlc_framer.specs.Stuffing.{flag}
use Rattle.reed_solomon.specs.Distance.{distance}
use Rattle.fx25_blocks.specs.Blocks.{IsBlockCodeword}
use Rattle.fx25_blocks.specs.NearTag.{IsNearTag}
use Rattle.fx25_blocks.specs.Tags.{IsTag, block_length, check_count, data_count}

-- Bits begin with one flag or more, a frame and a flag, which is over after so many bits. What follows is anything.
pub record OpensWithFrame (bits : List Bool) (frame : List ℕ) (over : ℕ) : Type 0 where
  pub flags_before : ℕ
  pub rest : List Bool
  pub bits_are : bits ≡ flags flags_before ++ (flag ++ (frame_bits frame ++ (flag ++ rest)))
  pub is_frame : IsFrame frame
  pub over_is : over ≡ 8 * flags_before + (length (frame_bits frame) + 16)

-- a codeword of a tag that differs from what was heard in at most half as many octets as there are check octets
pub record IsRepairOf (tag : ℕ) (word codeword : List ℕ) : Type 0 where
  pub size : length codeword ≡ length word
  pub octets : All (λ octet. octet < 256) codeword
  pub is_codeword : IsBlockCodeword tag codeword
  pub near : 2 * distance word codeword ≤ check_count tag

-- Bits are those of a word near enough to a codeword whose data octets open with a frame. The flag after the frame is
-- over after so many bits.
pub record CarriesFrame (tag : ℕ) (bits : List Bool) (frame : List ℕ) (over : ℕ) : Type 0 where
  pub word : List ℕ
  pub codeword : List ℕ
  pub bits_are : bits ≡ sent_bits word
  pub octets : All (λ octet. octet < 256) word
  pub size : length word ≡ block_length tag
  pub repair : IsRepairOf tag word codeword
  pub opens : OpensWithFrame (sent_bits (take (data_count tag) codeword)) frame over

-- the last bits are a tag, near enough, and a block that carries a frame
pub record EndsBlock (bits : List Bool) (tag : ℕ) (frame : List ℕ) (over : ℕ) : Type 0 where
  pub before : List Bool
  pub heard : List Bool
  pub block : List Bool
  pub is_tag : IsTag tag
  pub bits_are : bits ≡ before ++ (heard ++ block)
  pub near_tag : IsNearTag tag heard
  pub carries : CarriesFrame tag block frame over
