-- Frames that were sent, plainly or in blocks of FX.25, and samples in which they come. A unit is a frame between its
-- flags, or a tag with the block of a frame.
use Rattle.std.specs.Prelude.{◌≡◌, ℕ, zero, suc, ◌+◌, ◌*◌, ◌/◌, ◌%◌, ◌<◌, ◌≤◌, ◌⊎◌, ℤ, Bool, List, [], ◌∷◌, ◌++◌, length}
use Rattle.std.specs.Prelude.{take, drop}
use Rattle.std.specs.List.{All}
use Rattle.hdlc_framer.specs.BitOrder.{sent_bits}
use Rattle.hdlc_framer.specs.Frames.{IsFrame, frame_bits}
use Rattle.hdlc_framer.specs.Stuffing.{flag}
use Rattle.offset_slicers.specs.Windows.{bits}
use Rattle.reed_solomon.specs.Distance.{distance}
use Rattle.fx25_blocks.specs.Blocks.{IsBlockOf, bits_needed}
use Rattle.fx25_blocks.specs.NearTag.{IsNearTag}
use Rattle.fx25_blocks.specs.Tags.{IsTag, block_length, check_count}

-- a frame, the tag of its block, which is 0 if it was sent plainly, and the first sample of its flag or tag
pub record SentUnit : Type 0 where
  pub begin : ℕ
  pub tag : ℕ
  pub octets : List ℕ

-- how many bits of the unit are over when the flag after the frame is
abbrev pub bits_to_frame : ℕ → List ℕ → ℕ
bits_to_frame zero octets = bits_needed octets
bits_to_frame (suc tag) octets = 64 + bits_needed octets

-- how many bits the unit has
abbrev pub bits_in_unit : ℕ → List ℕ → ℕ
bits_in_unit zero octets = bits_needed octets
bits_in_unit (suc tag) octets = 64 + 8 * block_length (suc tag)

-- the first sample after the flag that follows the frame: a bit is eight samples
abbrev pub frame_end : SentUnit → ℕ
frame_end unit = unit.begin + 8 * bits_to_frame unit.tag unit.octets

-- the first sample after the unit
abbrev pub unit_end : SentUnit → ℕ
unit_end unit = unit.begin + 8 * bits_in_unit unit.tag unit.octets

-- each unit begins where the one before has ended, or later
abbrev pub AreApart : ℕ → List SentUnit → Type 0
AreApart place [] = Unit {0}
AreApart place (unit ∷ units) = (place ≤ unit.begin) × AreApart (unit_end unit) units

-- as many bits as the unit has, of the lane whose windows its bits are, from its first sample on
abbrev pub bits_at : List ℤ → SentUnit → List Bool
bits_at x unit = take (bits_in_unit unit.tag unit.octets) (drop (unit.begin / 8) (bits (unit.begin % 8) x))

-- these bits are the frame between its flags
abbrev pub ComesPlainly : SentUnit → List Bool → Type 0
ComesPlainly unit came = (unit.tag ≡ 0) × (came ≡ flag ++ (frame_bits unit.octets ++ flag))

-- They are the tag, with at most 12 bits wrong, and the block of the frame, with at most half as many octets wrong as it
-- has check octets.
pub record ComesInBlock (unit : SentUnit) (came : List Bool) : Type 0 where
  pub is_tag : IsTag unit.tag
  pub heard : List Bool
  pub word : List ℕ
  pub block : List ℕ
  pub bits_are : came ≡ heard ++ sent_bits word
  pub near_tag : IsNearTag unit.tag heard
  pub octets : All (λ octet. octet < 256) word
  pub block_of : IsBlockOf unit.tag unit.octets block
  pub size : length word ≡ length block
  pub few_wrong : 2 * distance word block ≤ check_count unit.tag

-- the unit comes in the samples where it was sent
pub record Comes (x : List ℤ) (unit : SentUnit) : Type 0 where
  pub is_frame : IsFrame unit.octets
  pub comes : ComesPlainly unit (bits_at x unit) ⊎ ComesInBlock unit (bits_at x unit)
