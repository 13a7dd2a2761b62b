-- Samples without their mean, as the last 32 samples before a block and the block itself give them.
use Rattle.std.specs.Prelude.{ℕ, ◌+◌, ◌<◌, ◌≤◌, ℤ, pos, ◌-ℤ◌, ◌*ℤ◌, List, slice_index_or, unsigned_abs}
use Rattle.std.specs.Int.{int_div_euclid}
use Rattle.offset_slicers.specs.Decision.{sum_below}

-- the sum of 32 samples from a place on
unfoldable pub sum_from : List ℤ → ℕ → ℤ
sum_from samples place = sum_below (λ j. slice_index_or samples (place + j) (pos 0)) 32

-- the sample that is settled by the one 32 places past a place, without the mean of the 32 that end with that
abbrev pub level_at : List ℤ → ℕ → ℤ
level_at samples place =
    pos 4 *ℤ slice_index_or samples (place + 17) (pos 0) -ℤ int_div_euclid (sum_from samples (place + 1)) (pos 8)

-- the first ones are samples of sixteen bits
abbrev pub AreSmallBelow : ℕ → List ℤ → Type 0
AreSmallBelow count samples = (k : ℕ) → k < count → unsigned_abs (slice_index_or samples k (pos 0)) ≤ 32768
