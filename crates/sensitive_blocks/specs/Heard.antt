-- What all 26 lanes hear of samples, plainly and in blocks of FX.25, and what of it is given.
use Rattle.std.specs.Prelude.{◌≡◌, ℕ, ◌+◌, ◌-◌, ◌*◌, ◌<◌, ◌⊎◌, true, ℤ, List, length, slice_index_or}
use Rattle.std.specs.List.{All, AllPairs, Contains}
use Rattle.hdlc_framer.specs.Frames.{EndsFrame}
use Rattle.fx25_blocks.specs.Tags.{block_length}
use Rattle.fx25_blocks.specs.UnsureBlocks.{EndsUnsureBlock}
use Rattle.fx25_receiver.specs.declared.heard.Heard.{Heard}
use Rattle.fx25_receiver.specs.Heard.{standing}
use Rattle.fx25_receiver.specs.Merged.{merged}
use Rattle.sensitive_receiver.specs.AddedCandidates.{HasPath, is_in_time}
use Rattle.sensitive_blocks.specs.Bits.{ends, lane_bits, lane_certainties, place_for, reads}

-- A plain frame of one of the eight lanes is told. One of an added lane is told only if it begins with a path and its flag is
-- in time.
abbrev pub IsTold : List ℤ → ℕ → ℕ → List ℕ → Type 0
IsTold x lane end octets = (lane < 8) ⊎ (HasPath octets × (is_in_time x lane (place_for lane end) ≡ true))

-- A frame ends plainly with the lane's bit. It has no tag.
pub record EndsPlainly (x : List ℤ) (item : Heard) : Type 0 where
  pub tag : item.tag ≡ 0
  pub at : item.at ≡ item.end
  pub frame : EndsFrame (lane_bits x item.lane (item.end + 1)) item.octets
  pub told : IsTold x item.lane item.end item.octets

-- A block ends with the lane's bit, its octets being as sure as the lane's bits. Had its frame come plainly, it would have ended
-- with an earlier bit of the lane, after which as many bits follow as the block has after the flag after its frame.
pub record EndsInBlock (x : List ℤ) (item : Heard) : Type 0 where
  pub over : ℕ
  pub block : EndsUnsureBlock (lane_bits x item.lane (item.end + 1)) (lane_certainties x item.lane (item.end + 1)) item.tag
      item.octets over
  pub index : ℕ
  pub index_is : index + 1 + 8 * block_length item.tag ≡ length (lane_bits x item.lane (item.end + 1)) + over
  pub at : item.at ≡ slice_index_or (ends x item.lane (item.end + 1)) index 0

-- a lane reads a bit that ends where the item does, and the item ends with it
pub record IsHeard (x : List ℤ) (item : Heard) : Type 0 where
  pub lane : item.lane < 26
  pub reads : reads x item.lane item.end ≡ true
  pub ends : EndsPlainly x item ⊎ EndsInBlock x item

-- the items are all that is heard of the samples, each once, in order
pub record AreHeard (x : List ℤ) (items : List Heard) : Type 0 where
  pub each : All (IsHeard x) items
  pub whole : (item : Heard) → IsHeard x item → Contains items item
  pub order : AllPairs (λ item later. standing item < standing later) items

-- the items are what is heard of the samples, merged
pub record AreMerged (x : List ℤ) (items : List Heard) : Type 0 where
  pub heard : List Heard
  pub are : AreHeard x heard
  pub is : items ≡ merged heard

-- The added lanes hear a frame up to 32 samples after its end, so what ends below this position is settled.
abbrev pub settled : ℕ → ℕ
settled count = count - 32
