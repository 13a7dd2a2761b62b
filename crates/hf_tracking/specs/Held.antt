-- What a tracker and a bank's tones keep of samples, and what that stands for.
use Rattle.std.specs.Prelude.{◌≡◌, ℕ, ◌+◌, ◌-◌, ◌%◌, ◌<◌, ◌≤◌, ℤ, pos, List, length, slice_index_or}
use Rattle.tone_table.specs.declared.tone.Tone.{Tone}
use Rattle.tone_tracking.specs.declared.correlation.Correlations.{Correlations}
use Rattle.tone_tracking.specs.HeldTracker.{tone_before}
use Rattle.hf_tracking.specs.declared.track.Track.{Track}
use Rattle.hf_tracking.specs.Correlation.{correlations}
use Rattle.hf_tracking.specs.Heard.{track_at, tone_at, windows_in, places_in}

-- the next place, the track at it and at the seven places after it, and the tones of the last 32 places, each track and
-- each tone where its place is modulo 8 and 32
pub record HeldTracker : Type 0 where
  pub place : ℕ
  pub tracks : List Track
  pub recent : List Tone

-- the tracker has decided the windows at all places before its own
pub record TrackerStandsFor (held : HeldTracker) (windows : ℕ → Correlations) : Type 0 where
  pub tracks : (j : ℕ) (d : Track) → j < 8 → slice_index_or held.tracks ((held.place + j) % 8) d
      ≡ track_at windows (held.place + j)
  pub recent : (back : ℕ) (d : Tone) → back < 32
      → slice_index_or held.recent ((held.place + 31 - back) % 32) d
      ≡ tone_before (tone_at windows) held.place back

-- the number of the bank, how many samples were taken, the last 32 of them, the correlations at the last places, each where
-- its place is modulo 32, and the tracker
pub record HeldTones : Type 0 where
  pub bank : ℕ
  pub count : ℕ
  pub samples : List ℤ
  pub recent : List Correlations
  pub tracker : HeldTracker

-- the samples that are kept, and the correlations, are those of so many of these samples as are counted
pub record HasSamples (held : HeldTones) (x : List ℤ) : Type 0 where
  pub within : held.count ≤ length x
  pub last : (i : ℕ) → i < 32 → 32 ≤ held.count + i
      → slice_index_or held.samples i (pos 0) ≡ slice_index_or x (held.count + i - 32) (pos 0)
  pub recent : (place : ℕ) (d : Correlations) → place < windows_in held.count → windows_in held.count ≤ place + 32
      → slice_index_or held.recent (place % 32) d ≡ correlations held.bank x place

-- the bank has taken so many of these samples as are counted, and decided all places of them
pub record HasTaken (held : HeldTones) (x : List ℤ) : Type 0 where
  pub samples : HasSamples held x
  pub place : held.tracker.place ≡ places_in held.count
  pub stands_for : TrackerStandsFor held.tracker (correlations held.bank x)
