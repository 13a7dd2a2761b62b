-- What the filters keep, and what that stands for.
use Rattle.std.specs.Prelude.{◌≡◌, ℕ, ◌+◌, ◌-◌, ◌*◌, ◌/◌, ℤ, List, ◌++◌, length, drop}
use Rattle.resampler.specs.Filtered.{zeros, stuffed}

-- the last 31 of the samples, with zeros before the first
abbrev pub last_window : List ℤ → List ℤ
last_window x = drop (length x) (zeros 31 ++ x)

-- the last samples, and how many are to come until the next one is given
pub record HeldFilter : Type 0 where
  pub window : List ℤ
  pub left : ℕ

-- the filter has taken these samples
pub record StandsFor (held : HeldFilter) (x : List ℤ) : Type 0 where
  pub window : held.window ≡ last_window x
  pub left : held.left ≡ 15 - length x

-- so of a decimator, which gives a sample for each fifth
pub record HasDecimated (held : HeldFilter) (x : List ℤ) : Type 0 where
  pub window : held.window ≡ last_window x
  pub left : held.left + length x ≡ 15 + 5 * ((length x - 15 + 4) / 5)

-- an interpolator has taken these samples: its window ends with the last zero that follows the last of them
abbrev pub HasStuffed : List ℤ → List ℤ → Type 0
HasStuffed window x = window ≡ last_window (stuffed x)
