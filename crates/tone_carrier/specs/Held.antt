-- What a lane of a carrier keeps of the windows of its offset, what a carrier keeps of samples, and what that stands
-- for.
use Rattle.std.specs.Prelude.{◌≡◌, ℕ, ◌+◌, ◌-◌, ◌*◌, ◌<◌, ℤ, pos, List, ◌++◌, length, drop, replicate, Option}
use Rattle.std.specs.Prelude.{slice_get, slice_index_or}
use Rattle.offset_slicers.specs.Held.{offset_from}
use Rattle.tone_carrier.specs.declared.heard_window.HeardWindow.{HeardWindow}
use Rattle.tone_carrier.specs.Evidence.{evidence}
use Rattle.tone_carrier.specs.Hold.{last_hold}
use Rattle.tone_carrier.specs.Tones.{heard_windows}

-- the last window, and the evidence and the hold after it
pub record HeldLane : Type 0 where
  pub last : Option HeardWindow
  pub evidence : ℕ
  pub hold : ℕ

-- the lane has taken these windows
pub record LaneStandsFor (held : HeldLane) (windows : List HeardWindow) : Type 0 where
  pub last : held.last ≡ slice_get windows (length windows - 1)
  pub evidence : held.evidence ≡ evidence windows (length windows - 1)
  pub hold : held.hold ≡ last_hold windows

-- the lanes of the offsets 0, 2, 4 and 6, where the stretch under way began, where it has come to, and its last eight
-- samples
pub record HeldCarrier : Type 0 where
  pub lanes : List HeldLane
  pub begin : ℕ
  pub position : ℕ
  pub recent : List ℤ

-- what stands before the first sample
abbrev pub silence : List ℤ
silence = replicate 8 (pos 0)

-- the carrier has taken these samples of a stretch that begins at a place in the audio
pub record StandsFor (held : HeldCarrier) (begin : ℕ) (x : List ℤ) : Type 0 where
  pub begins : held.begin ≡ begin
  pub count : held.position ≡ begin + length x
  pub recent : held.recent ≡ drop (length x) (silence ++ x)
  pub lanes : (half : ℕ) (d : HeldLane) → half < 4
      → LaneStandsFor (slice_index_or held.lanes half d) (heard_windows (offset_from (2 * half) begin) x)
