-- What the lists of tones keep of samples, and what that stands for.
use Rattle.std.specs.Prelude.{◌≡◌, ℕ, ◌+◌, ◌%◌, ◌<◌, ◌≤◌, ℤ, pos, List, length, slice_index_or}
use Rattle.tone_tracking.specs.declared.correlation.Correlations.{Correlations}
use Rattle.tone_tracking.specs.Correlation.{correlations}
use Rattle.tone_tracking.specs.Heard.{places_in}
use Rattle.tone_tracking.specs.HeldTracker.{HeldTracker, StandsFor as TrackerStandsFor}

-- how many samples were taken, the last eight of them, each where its number is modulo 8 and again eight on, the
-- correlations at the last places, each where its place is modulo 32, and the trackers
pub record HeldLists : Type 0 where
  pub count : ℕ
  pub samples : List ℤ
  pub recent : List Correlations
  pub alone : HeldTracker
  pub near : HeldTracker
  pub far : HeldTracker

-- the tracker has decided all places of the first `count` samples
pub record HasDecided (tracker : HeldTracker) (count : ℕ) (x : List ℤ) : Type 0 where
  pub place : tracker.place ≡ places_in count
  pub stands_for : TrackerStandsFor tracker (correlations x)

-- the samples that are kept, and the correlations, are those of so many of these samples as are counted
pub record HasSamples (held : HeldLists) (x : List ℤ) : Type 0 where
  pub within : held.count ≤ length x
  pub once : (n : ℕ) → n < held.count → held.count ≤ n + 8
      → slice_index_or held.samples (n % 8) (pos 0) ≡ slice_index_or x n (pos 0)
  pub again : (n : ℕ) → n < held.count → held.count ≤ n + 8
      → slice_index_or held.samples (n % 8 + 8) (pos 0) ≡ slice_index_or x n (pos 0)
  pub recent : (place : ℕ) (d : Correlations) → place + 8 ≤ held.count → held.count < place + 40
      → slice_index_or held.recent (place % 32) d ≡ correlations x place

-- the lists have taken so many of these samples as are counted, and decided all places of them
pub record HasTaken (held : HeldLists) (x : List ℤ) : Type 0 where
  pub samples : HasSamples held x
  pub alone : HasDecided held.alone held.count x
  pub near : HasDecided held.near held.count x
  pub far : HasDecided held.far held.count x
