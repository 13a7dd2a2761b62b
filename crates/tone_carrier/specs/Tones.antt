-- When samples have the tones of a transmission: enough evidence was found at some offset, and it has not been lost
-- since. Every other offset is listened at, since at each begin of a bit one of them is at most a sample away.
use Rattle.std.specs.Prelude.{◌≡◌, ℕ, ◌+◌, ◌*◌, ◌<◌, ◌≤◌, ℤ, List, length, map}
use Rattle.std.specs.List.{range_with_len}
use Rattle.offset_slicers.specs.Windows.{windows_in, window_at}
use Rattle.offset_slicers.specs.Held.{offset_from}
use Rattle.tone_carrier.specs.declared.heard_window.HeardWindow.{HeardWindow}
use Rattle.tone_carrier.specs.HeardWindows.{heard_window}
use Rattle.tone_carrier.specs.Evidence.{evidence, most_evidence}

-- the evidence that keeps a carrier
abbrev pub kept_evidence : ℕ
kept_evidence = 8

-- after so many windows without it a carrier is lost
abbrev pub most_windows : ℕ
most_windows = 42

-- The last window shows a carrier: the evidence was full after some window, and since then it was never for 42 windows
-- in a row too little to keep the carrier.
pub record ShowsCarrier (windows : List HeardWindow) : Type 0 where
  pub found : ℕ
  pub within : found < length windows
  pub full : evidence windows found ≡ most_evidence
  pub kept : (k : ℕ) → found ≤ k → k < length windows
      → (near : ℕ) × (found ≤ near) × (near ≤ k) × (k < near + most_windows) × (kept_evidence ≤ evidence windows near)

-- what is heard in the windows of an offset that lie in the samples
unfoldable pub heard_windows : ℕ → List ℤ → List HeardWindow
heard_windows offset x =
    map (λ k. heard_window (window_at offset x k)) (range_with_len 0 (windows_in offset (length x)))

-- Samples that begin at a place in the audio have tones: the windows at one of the audio's offsets 0, 2, 4 and 6 show
-- a carrier.
pub record HasTones (begin : ℕ) (x : List ℤ) : Type 0 where
  pub half : ℕ
  pub small : half < 4
  pub shown : ShowsCarrier (heard_windows (offset_from (2 * half) begin) x)
