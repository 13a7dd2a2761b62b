-- A frame as FX.25 sends it between the flags of a transmission.
use Rattle.std.specs.Prelude.{◌≡◌, ℕ, ◌≤◌, Bool, List, ◌++◌}
use Rattle.hdlc_framer.specs.BitOrder.{sent_bits}
use Rattle.hdlc_framer.specs.Frames.{frame_bits}
use Rattle.hdlc_framer.specs.Stuffing.{flag}
use Rattle.fx25_blocks.specs.Blocks.{Fits, IsBlockOf, bits_needed}
use Rattle.fx25_blocks.specs.Tags.{IsTag, check_count, data_count, tag_bits}

-- the tag with so many check octets and the fewest data octets into which so many bits fit
pub record IsTagFor (checks needed tag : ℕ) : Type 0 where
  pub is_tag : IsTag tag
  pub checks_are : check_count tag ≡ checks
  pub fits : Fits tag needed
  pub fewest : (other : ℕ) → IsTag other → check_count other ≡ checks → Fits other needed
      → data_count tag ≤ data_count other

-- so many bits fit into the data octets of no tag with so many check octets
abbrev pub FitsNoTag : ℕ → ℕ → Type 0
FitsNoTag checks needed = (tag : ℕ) → IsTag tag → check_count tag ≡ checks → ¬ Fits tag needed

-- the tag and the block of a frame
pub record IsBlockUnit (checks : ℕ) (frame : List ℕ) (bits : List Bool) : Type 0 where
  pub tag : ℕ
  pub block : List ℕ
  pub tag_for : IsTagFor checks (bits_needed frame) tag
  pub block_of : IsBlockOf tag frame block
  pub bits_are : bits ≡ tag_bits tag ++ sent_bits block

-- a frame with so many check octets, or plainly if it fits no tag that has as many
pub data IsUnit (checks : ℕ) (frame : List ℕ) (bits : List Bool) : Type 0 where
  in_block : IsBlockUnit checks frame bits → IsUnit checks frame bits
  plain : FitsNoTag checks (bits_needed frame) → bits ≡ flag ++ (frame_bits frame ++ flag) → IsUnit checks frame bits
