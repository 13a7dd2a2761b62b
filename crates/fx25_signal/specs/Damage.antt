-- Samples of which one stretch in each block came as anything.
use Rattle.std.specs.Prelude.{◌≡◌, ℕ, ◌+◌, ◌*◌, ◌<◌, ◌≤◌, ◌⊎◌, ℤ, Bool, List, [], ◌∷◌, ◌++◌, length, slice_index_or}
use Rattle.std.specs.List.{All}
use Rattle.hdlc_framer.specs.BitOrder.{sent_bits}
use Rattle.hdlc_framer.specs.Frames.{IsFrame}
use Rattle.fx25_blocks.specs.Blocks.{IsBlockOf}
use Rattle.fx25_blocks.specs.Tags.{IsTag, check_count, tag_bits}
use Rattle.fx25_signal.specs.Units.{ComesPlainly, SentUnit, bits_at, unit_end}

-- so many samples from one on
pub record Stretch : Type 0 where
  pub start : ℕ
  pub count : ℕ

-- a sample is not one of them
abbrev pub IsOutside : ℕ → Stretch → Type 0
IsOutside i stretch = (i < stretch.start) ⊎ (stretch.start + stretch.count ≤ i)

-- A stretch that a block can lose: it begins after the tag, ends before the last bit of the block, and has at most
-- 32c - 71 samples, c being the number of check octets.
pub record CanBeLost (unit : SentUnit) (stretch : Stretch) : Type 0 where
  pub is_tag : IsTag unit.tag
  pub after_tag : unit.begin + 512 ≤ stretch.start
  pub before : stretch.start + stretch.count + 8 ≤ unit_end unit
  pub short : stretch.count + 71 ≤ 32 * check_count unit.tag

-- for each unit a stretch that it can lose, or no sample
abbrev pub AreLost : List SentUnit → List Stretch → Type 0
AreLost [] [] = Unit {0}
AreLost [] (stretch ∷ stretches) = ⊥
AreLost (unit ∷ units) [] = ⊥
AreLost (unit ∷ units) (stretch ∷ stretches) =
    ((stretch.count ≡ 0) ⊎ CanBeLost unit stretch) × AreLost units stretches

-- two lists of samples have one length, and differ in stretches alone
pub record DifferInStretches (stretches : List Stretch) (x sent : List ℤ) : Type 0 where
  pub size : length x ≡ length sent
  pub same : (i : ℕ) (d : ℤ) → All (IsOutside i) stretches → slice_index_or x i d ≡ slice_index_or sent i d

-- the bits are a tag and the block of a frame, each right
pub record IsSentBlock (tag : ℕ) (octets : List ℕ) (bits : List Bool) : Type 0 where
  pub is_tag : IsTag tag
  pub block : List ℕ
  pub block_of : IsBlockOf tag octets block
  pub bits_are : bits ≡ tag_bits tag ++ sent_bits block

-- the unit comes in the samples where it was sent, each bit right
pub record ComesRight (x : List ℤ) (unit : SentUnit) : Type 0 where
  pub is_frame : IsFrame unit.octets
  pub comes : ComesPlainly unit (bits_at x unit) ⊎ IsSentBlock unit.tag unit.octets (bits_at x unit)
