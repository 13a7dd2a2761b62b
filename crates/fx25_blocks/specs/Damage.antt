-- A stretch of bits that came wrong.
use Rattle.std.specs.Prelude.{◌≡◌, ℕ, ◌+◌, ◌<◌, ◌≤◌, ◌⊎◌, Bool, false, List, slice_index_or}

-- two lists differ at most in so many places from one on
abbrev pub DifferWithin : ℕ → ℕ → List Bool → List Bool → Type 0
DifferWithin start count xs ys =
    (i : ℕ) → (i < start) ⊎ (start + count ≤ i) → slice_index_or xs i false ≡ slice_index_or ys i false
