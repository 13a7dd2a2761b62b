-- A stretch of samples that came wrong.
use Rattle.std.specs.Prelude.{◌≡◌, ℕ, ◌+◌, ◌<◌, ◌≤◌, ◌⊎◌, ℤ, List, length, slice_index_or}

-- two lists of samples have one length, and differ at most in so many samples from one on
pub record DifferInStretch (start count : ℕ) (x y : List ℤ) : Type 0 where
  pub size : length x ≡ length y
  pub same : (i : ℕ) → (d : ℤ) → (i < start) ⊎ (start + count ≤ i) → slice_index_or x i d ≡ slice_index_or y i d
