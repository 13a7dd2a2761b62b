-- What a mean remover keeps, and what that stands for.
use Rattle.std.specs.Prelude.{◌≡◌, ◌≤◌, ℕ, ◌-◌, ℤ, pos, List, ◌++◌, length, drop, take, replicate, slice_index_or, unsigned_abs}
use Rattle.std.specs.List.{All}
use Rattle.offset_slicers.specs.Decision.{sum_below}

-- the last 32 of the samples, with zeros before the first
abbrev pub last_samples : List ℤ → List ℤ
last_samples x = drop (length x) (replicate 32 (pos 0) ++ x)

-- a ring of samples, read from where the oldest of them stands
abbrev pub from_oldest : ℕ → List ℤ → List ℤ
from_oldest oldest ring = drop oldest ring ++ take oldest ring

-- these, and how many are to come until a sample without its mean is given
pub record HeldMean : Type 0 where
  pub samples : List ℤ
  pub left : ℕ

-- the remover has taken these samples
pub record StandsFor (held : HeldMean) (x : List ℤ) : Type 0 where
  pub samples : held.samples ≡ last_samples x
  pub left : held.left ≡ 15 - length x

-- the sum of 32 samples of sixteen bits
pub record IsSumOf (samples : List ℤ) (sum : ℤ) : Type 0 where
  pub small : All (λ sample. unsigned_abs sample ≤ 32768) samples
  pub sum_is : sum ≡ sum_below (λ j. slice_index_or samples j (pos 0)) 32
