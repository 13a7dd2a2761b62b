-- What is heard of one window and of some samples.
use Rattle.std.specs.Prelude.{◌≡◌, ℕ, zero, suc, ◌+◌, ◌*◌, ◌<◌, ◌≤◌, ℤ, List, [], ◌∷◌, ◌++◌, length, map, take, drop, Bool}
use Rattle.std.specs.Prelude.{Some}
use Rattle.std.specs.Prelude.{slice_index_or}
use Rattle.std.specs.List.{All, AllPairs, Contains}
use Rattle.tone_table.specs.declared.tone.Tone.{Tone}
use Rattle.nrzi_bits.specs.Line.{bits_of}
use Rattle.hdlc_framer.specs.Frames.{EndsFrame}
use Rattle.offset_slicers.specs.Decision.{tone_of}
use Rattle.frame_merge.specs.declared.candidate.Candidate.{Candidate}
use Rattle.offset_slicers.specs.Windows.{windows_in, tones_at}
use Rattle.slicer_bank.specs.Candidates.{IsCandidate}
use Rattle.slicer_bank.specs.Held.{HeldLane, LaneStandsFor, last_seven}
use Rattle.slicer_bank.specs.Merging.{CanBePutPast}

-- a frame that ends at a place, as the lane of an offset hears it
abbrev pub candidate_at : ℕ → ℕ → List ℕ → Candidate
candidate_at end offset octets = record { end = end; offset = offset; octets = octets }

-- what a lane with these bits adds to what was found: the one frame that ends with them, or nothing
pub record Adds (offset end : ℕ) (bits : List Bool) (before after : List Candidate) : Type 0 where
  pub octets : List (List ℕ)
  pub found : after ≡ before ++ map (candidate_at end offset) octets
  pub each : All (λ o. EndsFrame bits o) octets
  pub whole : (o : List ℕ) → EndsFrame bits o → octets ≡ o ∷ []

-- the tones of so many windows in a row
unfoldable pub tones_in : ℕ → List ℤ → List Tone
tones_in zero samples = []
tones_in (suc count) samples = tone_of (take 8 samples) ∷ tones_in count (drop 8 samples)

-- what a lane that has taken tones adds with more of them, the window of the first of which ends at a place
abbrev pub AddsAll : ℕ → ℕ → List Tone → List Tone → List Candidate → List Candidate → Type 0
AddsAll offset end tones [] before after = before ≡ after
AddsAll offset end tones (tone ∷ more) before after = (middle : List Candidate)
    × Adds offset end (bits_of (tones ++ tone ∷ [])) before middle
    × AddsAll offset (end + 8) (tones ++ tone ∷ []) more middle after

-- the items are the candidates of one offset that end with one of its windows, from a window's number to below
-- another's, each once and in order
pub record AreOfWindows (offset first next : ℕ) (x : List ℤ) (items : List Candidate) : Type 0 where
  pub each : All (λ item. IsCandidate x item × (item.offset ≡ offset) × (offset + 8 * first < item.end)
      × (item.end ≤ offset + 8 * next)) items
  pub whole : (item : Candidate) → IsCandidate x item → item.offset ≡ offset → offset + 8 * first < item.end
      → item.end ≤ offset + 8 * next → Contains items item
  pub order : AllPairs (λ item later. item.end < later.end) items

-- what a lane finds in samples is followed by all that it hears in more of them
pub record LaneHearsMore (offset : ℕ) (x more : List ℤ) (before after : List Candidate) : Type 0 where
  pub heard : List Candidate
  pub found : after ≡ before ++ heard
  pub are : AreOfWindows offset (windows_in offset (length x)) (windows_in offset (length (x ++ more))) (x ++ more)
      heard

-- the lane of an offset, which had taken `position` samples with `seven` as the last, has taken these, too, and added
-- what it heard in them
abbrev pub LaneHears : ℕ → ℕ → List ℤ → List ℤ → HeldLane → HeldLane → List Candidate → List Candidate → Type 0
LaneHears offset position seven more initial lane before after = (x : List ℤ) → length x ≡ position
    → seven ≡ last_seven x → LaneStandsFor initial (tones_at offset x)
    → LaneStandsFor lane (tones_at offset (x ++ more)) × LaneHearsMore offset x more before after

-- the lane of an offset, which had taken `position` samples with `seven` as the last, heard a block by itself and keeps
-- what it heard
abbrev pub HearsAlone : ℕ → ℕ → List ℤ → List ℤ → HeldLane → HeldLane → Type 0
HearsAlone offset position seven block was lane = (x : List ℤ) (items : List Candidate) → lane.heard ≡ Some items
    → length x ≡ position
    → seven ≡ last_seven x → LaneStandsFor was (tones_at offset x)
    → LaneStandsFor lane (tones_at offset (x ++ block))
    × AreOfWindows offset (windows_in offset position) (windows_in offset (length (x ++ block))) (x ++ block) items

-- each lane keeps what it heard in samples after a position
abbrev pub LanesKeep : ℕ → List ℤ → List HeldLane → Type 0
LanesKeep position x lanes = (offset : ℕ) (d : HeldLane) (items : List Candidate) → offset < 8
    → (slice_index_or lanes offset d).heard ≡ Some items
    → AreOfWindows offset (windows_in offset position) (windows_in offset (length x)) x items

-- what each lane keeps can be put into a merger, and ends past a position
abbrev pub LanesKeepFit : ℕ → List HeldLane → Type 0
LanesKeepFit position lanes = (offset : ℕ) (d : HeldLane) (items : List Candidate) → offset < 8
    → (slice_index_or lanes offset d).heard ≡ Some items → All (CanBePutPast position) items

-- two lanes are the same but for what they keep of what they heard
pub record AreAlike (lane other : HeldLane) : Type 0 where
  pub before : lane.before ≡ other.before
  pub deframer : lane.deframer ≡ other.deframer

-- and so are the lanes of two banks, each for each
abbrev pub LanesAreAlike : List HeldLane → List HeldLane → Type 0
LanesAreAlike lanes others = (offset : ℕ) (d : HeldLane) → offset < 8
    → AreAlike (slice_index_or lanes offset d) (slice_index_or others offset d)
