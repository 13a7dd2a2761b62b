-- The candidates of samples: every frame that the slicer at one of the eight offsets of a bit hears, with the place
-- where it ends.
use Rattle.std.specs.Prelude.{◌≡◌, ℕ, ◌+◌, ◌*◌, ◌<◌, ℤ, List, length, take}
use Rattle.std.specs.List.{All, AllPairs, Contains}
use Rattle.offset_slicers.specs.Windows.{bits, EndsWindow}
use Rattle.hdlc_framer.specs.Frames.{EndsFrame}
use Rattle.frame_merge.specs.declared.candidate.Candidate.{Candidate}
use Rattle.frame_merge.specs.Order.{standing}

-- a frame ends at bit `index` of the bits at the item's offset, and the item's end is the first sample after that bit's
-- window
pub record EndsAtBit (x : List ℤ) (item : Candidate) (index : ℕ) : Type 0 where
  pub within : index < length (bits item.offset x)
  pub end_of : item.end ≡ item.offset + 8 * (index + 1)
  pub frame : EndsFrame (take (index + 1) (bits item.offset x)) item.octets

-- the item is what the slicer at its offset hears at its end
pub record IsCandidate (x : List ℤ) (item : Candidate) : Type 0 where
  pub offset : item.offset < 8
  pub index : ℕ
  pub ends : EndsAtBit x item index

-- the items are the candidates of the samples that end after a position, each once, by end and then offset
pub record AreCandidatesAfter (position : ℕ) (x : List ℤ) (items : List Candidate) : Type 0 where
  pub each : All (λ item. IsCandidate x item × (position < item.end)) items
  pub whole : (item : Candidate) → IsCandidate x item → position < item.end → Contains items item
  pub order : AllPairs (λ item later. standing item < standing later) items

-- the items are all candidates of the samples
abbrev pub AreCandidates : List ℤ → List Candidate → Type 0
AreCandidates x items = AreCandidatesAfter 0 x items

-- a frame ends with the last of the samples, as the slicer at an offset hears it
pub record EndsWith (offset : ℕ) (x : List ℤ) (octets : List ℕ) : Type 0 where
  pub window : EndsWindow offset x
  pub frame : EndsFrame (bits offset x) octets
