-- Samples and losses tile the positions below an end: each is that of one sample, or lost.
use Rattle.std.specs.Prelude.{◌≡◌, ℕ, ◌<◌, ◌≤◌, ◌⊎◌, List}
use Rattle.std.specs.List.{All, AllPairs, Contains}
use Rattle.ring_recorder.specs.declared.loss.Loss.{Loss}
use Rattle.ring_recorder.specs.Recording.{Placed}

-- one of the samples has this position
abbrev pub IsGiven : List Placed → ℕ → Type 0
IsGiven items position = (item : Placed) × Contains items item × (item.at ≡ position)

-- one of the losses covers this position
abbrev pub IsLost : List Loss → ℕ → Type 0
IsLost losses position = (loss : Loss) × Contains losses loss × (loss.from ≤ position) × (position < loss.to)

-- Each position below the end is that of a sample or lost, and not both. No position is that of two samples, and
-- between two losses a position is not lost.
pub record Tile (end : ℕ) (items : List Placed) (losses : List Loss) : Type 0 where
  pub whole : (position : ℕ) → position < end → IsGiven items position ⊎ IsLost losses position
  pub apart : (position : ℕ) → IsGiven items position → ¬ IsLost losses position
  pub items_within : All (λ item. item.at < end) items
  pub losses_within : All (λ loss. (loss.from < loss.to) × (loss.to ≤ end)) losses
  pub items_rise : AllPairs (λ item later. item.at < later.at) items
  pub losses_rise : AllPairs (λ loss later. loss.to < later.from) losses
