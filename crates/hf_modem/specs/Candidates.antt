-- The candidates of samples: every frame that the slicer at one of the 32 offsets of a bit hears, with where it ends. A
-- bit has four times the samples of one at 1200 bits a second, so an end counts fours of samples, rounded down: then
-- slicers that hear one frame do so at ends within 15, as at 1200 bits a second.
use Rattle.std.specs.Prelude.{◌≡◌, ℕ, ◌+◌, ◌*◌, ◌/◌, ◌%◌, ◌<◌, ℤ, List, length, take}
use Rattle.std.specs.List.{All, AllPairs, Contains}
use Rattle.hdlc_framer.specs.Frames.{EndsFrame}
use Rattle.frame_merge.specs.declared.candidate.Candidate.{Candidate}
use Rattle.frame_merge.specs.Order.{standing}
use Rattle.hf_modem.specs.Windows.{bits, EndsWindow}

-- a frame ends at bit `index` of the bits at the item's offset, and the item's end is a quarter of the place of the
-- first sample after that bit's window, rounded down
pub record EndsAtBit (x : List ℤ) (item : Candidate) (index : ℕ) : Type 0 where
  pub within : index < length (bits item.offset x)
  pub end_of : item.end ≡ (item.offset + 32 * (index + 1)) / 4
  pub frame : EndsFrame (take (index + 1) (bits item.offset x)) item.octets

-- the item is what the slicer at its offset hears at its end
pub record IsCandidate (x : List ℤ) (item : Candidate) : Type 0 where
  pub offset : item.offset < 32
  pub index : ℕ
  pub ends : EndsAtBit x item index

-- the first sample after the last window of an item: its windows begin at all places that are its offset modulo 32, so
-- the rest that rounding took away is that of its offset
abbrev pub end_sample : Candidate → ℕ
end_sample item = 4 * item.end + item.offset % 4

-- the items are the candidates of the samples that end after a sample, each once, by end and then offset
pub record AreCandidatesAfter (position : ℕ) (x : List ℤ) (items : List Candidate) : Type 0 where
  pub each : All (λ item. IsCandidate x item × (position < end_sample item)) items
  pub whole : (item : Candidate) → IsCandidate x item → position < end_sample item → Contains items item
  pub order : AllPairs (λ item later. standing item < standing later) items

-- the items are all candidates of the samples
abbrev pub AreCandidates : List ℤ → List Candidate → Type 0
AreCandidates x items = AreCandidatesAfter 0 x items

-- a frame ends with the last of the samples, as the slicer at an offset hears it
pub record EndsWith (offset : ℕ) (x : List ℤ) (octets : List ℕ) : Type 0 where
  pub window : EndsWindow offset x
  pub frame : EndsFrame (bits offset x) octets

-- the candidate that a frame is which the slicer at an offset hears at a place
abbrev pub candidate_at : ℕ → ℕ → List ℕ → Candidate
candidate_at at offset octets = record { end = at / 4; offset = offset; octets = octets }
