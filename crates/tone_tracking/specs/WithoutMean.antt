-- Samples without their mean. A window of space is no whole number of cycles, so an offset or a hum that is louder than
-- the tones would be decided as space. What is left of samples is told in quarters, since a mean has a fraction too.
use Rattle.std.specs.Prelude.{ℕ, ◌+◌, ◌-◌, ℤ, pos, ◌-ℤ◌, ◌*ℤ◌, List, ◌++◌, length, map, replicate, slice_index_or}
use Rattle.std.specs.List.{range_with_len}
use Rattle.std.specs.Int.{int_div_euclid}
use Rattle.offset_slicers.specs.Decision.{sum_below}

-- the sum of the 32 samples from sixteen before a place to fifteen after it, where zeros stand before the first
unfoldable pub sum_around : List ℤ → ℕ → ℤ
sum_around x place = sum_below (λ j. slice_index_or (replicate 16 (pos 0) ++ x) (place + j) (pos 0)) 32

-- four times the sample at a place, less four times the mean of the 32 samples, which is rounded down
abbrev pub without_mean_at : List ℤ → ℕ → ℤ
without_mean_at x place = pos 4 *ℤ slice_index_or x place (pos 0) -ℤ int_div_euclid (sum_around x place) (pos 8)

-- those of the first places
abbrev pub without_mean_first : ℕ → List ℤ → List ℤ
without_mean_first count x = map (without_mean_at x) (range_with_len 0 count)

-- those that the samples settle, whatever follows: all but the last fifteen
abbrev pub without_mean : List ℤ → List ℤ
without_mean x = without_mean_first (length x - 15) x
