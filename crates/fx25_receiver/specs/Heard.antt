-- What the eight lanes hear of samples if they also read the blocks of FX.25: every frame that ends with a bit of a
-- lane, and every frame in a block that ends with one. A block is read as it came, or else with its least sure octets
-- unknown; a bit is as sure as the tone of its window.
use Rattle.std.specs.Prelude.{◌≡◌, ℕ, ◌+◌, ◌*◌, ◌<◌, ◌⊎◌, ℤ, List, Bool, length, take}
use Rattle.std.specs.List.{All, AllPairs, Contains}
use Rattle.offset_slicers.specs.Windows.{bits}
use Rattle.hdlc_framer.specs.Frames.{EndsFrame}
use Rattle.fx25_blocks.specs.Tags.{block_length}
use Rattle.fx25_blocks.specs.UnsureBlocks.{EndsUnsureBlock}
use Rattle.fx25_receiver.specs.Certainty.{certainties}
use Rattle.fx25_receiver.specs.declared.heard.Heard.{Heard}

-- A frame ends plainly with the last of the bits. It has no tag.
abbrev pub EndsPlainly : List Bool → Heard → Type 0
EndsPlainly bits item = (item.tag ≡ 0) × (item.at ≡ item.end) × EndsFrame bits item.octets

-- With the last of the bits, each of which has a number that says how sure it is, a block ends whose frame's closing flag
-- was over after so many bits of the block. Had the frame come plainly, it would have ended with that bit, eight samples a
-- bit before the block's end.
abbrev pub EndsInBlock : List Bool → List ℕ → Heard → Type 0
EndsInBlock bits numbers item = (over : ℕ) × EndsUnsureBlock bits numbers item.tag item.octets over
    × (item.at + 8 * (8 * block_length item.tag) ≡ item.end + 8 * over)

abbrev pub EndsWithBits : List Bool → List ℕ → Heard → Type 0
EndsWithBits bits numbers item = EndsPlainly bits item ⊎ EndsInBlock bits numbers item

-- the item ends with bit `index` of the bits of its lane, and its end is the first sample after that bit's window
pub record EndsAtBit (x : List ℤ) (item : Heard) (index : ℕ) : Type 0 where
  pub within : index < length (bits item.lane x)
  pub end_of : item.end ≡ item.lane + 8 * (index + 1)
  pub ends : EndsWithBits (take (index + 1) (bits item.lane x)) (take (index + 1) (certainties item.lane x)) item

-- the item is heard by one of the eight lanes, which are the offsets of a bit
pub record IsHeard (x : List ℤ) (item : Heard) : Type 0 where
  pub lane : item.lane < 8
  pub index : ℕ
  pub ends : EndsAtBit x item index

-- where an item stands: by its end, then by its lane, then by its tag, which is 0 if it came plainly
abbrev pub standing : Heard → ℕ
standing item = 65536 * item.end + (256 * item.lane + item.tag)

-- the items are all that is heard of the samples, each once, in order
pub record AreHeard (x : List ℤ) (items : List Heard) : Type 0 where
  pub each : All (IsHeard x) items
  pub whole : (item : Heard) → IsHeard x item → Contains items item
  pub order : AllPairs (λ item later. standing item < standing later) items
