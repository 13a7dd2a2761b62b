-- The level of a signal: what the amplitude of its wave is when that of the definitions is 10000.
use Rattle.std.specs.Prelude.{ℕ, ℤ, pos, ◌*ℤ◌, int_div, List, map}

-- level / 10000 of a sample, rounded towards zero
unfoldable pub sample_at : ℕ → ℤ → ℤ
sample_at level sample = int_div (pos level *ℤ sample) (pos 10000)

-- samples at a level
unfoldable pub at_level : ℕ → List ℤ → List ℤ
at_level level samples = map (sample_at level) samples
