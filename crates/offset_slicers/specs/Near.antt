-- Samples near a wave. The wave has amplitude 10000, so at a level its samples are level / 10000 as large; samples are
-- near it if each is within a tenth of the level. Distances are told ten thousandfold, so that nothing is rounded.
use Rattle.std.specs.Prelude.{◌≡◌, ℕ, ◌*◌, ◌<◌, ◌≤◌, ℤ, pos, ◌-ℤ◌, ◌*ℤ◌, List, length, slice_index_or, unsigned_abs}

-- ten thousand times the distance of a number from a number of the wave at a level
abbrev pub distance : ℕ → ℤ → ℤ → ℕ
distance level w x = unsigned_abs (pos 10000 *ℤ x -ℤ pos level *ℤ w)

-- as many samples as the wave has, each within a tenth of the level
pub record IsNear (level : ℕ) (wave x : List ℤ) : Type 0 where
  pub size : length x ≡ length wave
  pub close : (i : ℕ) → i < length wave
      → distance level (slice_index_or wave i (pos 0)) (slice_index_or x i (pos 0)) ≤ 1000 * level
