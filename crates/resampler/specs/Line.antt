-- What a window gives, and the windows of samples in a line. Only clauses within the crate cite this.
use Rattle.std.specs.Prelude.{ℕ, ◌+◌, ◌*◌, ℤ, List, map, take, drop}
use Rattle.std.specs.List.{range_with_len}
use Rattle.offset_slicers.specs.Decision.{sum_below, product_of}
use Rattle.resampler.specs.Taps.{taps, sample_of_sum}

-- the filtered sample of a window
abbrev pub sample_of_window : List ℤ → ℤ
sample_of_window window = sample_of_sum (sum_below (product_of window taps) 31)

-- those of so many windows of a line, of which the first begins at a place and each other one five places on
abbrev pub each_fifth : List ℤ → ℕ → ℕ → List ℤ
each_fifth line first count = map (λ k. sample_of_window (take 31 (drop (first + 5 * k) line))) (range_with_len 0 count)
