-- What is heard of its tone in a window of eight samples, one bit of Bell 202 at 9600 samples a second: where the tone
-- stands in its cycle and how large it is, by the two sums of its correlator, and how loud the window is.
use Rattle.std.specs.Prelude.{ℕ, ◌≤◌, ◌^◌, ℤ, pos, ◌-ℤ◌, ◌*ℤ◌, ◌≤ℤ◌, List, unsigned_abs, slice_index_or}
use Rattle.std.specs.Int.{int_div_euclid}
use Rattle.offset_slicers.specs.Decision.{sum_below, sine_sum, cosine_sum, tone_of}
use Rattle.tone_carrier.specs.declared.heard_window.HeardWindow.{HeardWindow}

-- the sample at a place of a window
abbrev pub sample_at : List ℤ → ℕ → ℤ
sample_at window i = slice_index_or window i (pos 0)

abbrev pub square_at : List ℤ → ℕ → ℤ
square_at window i = sample_at window i *ℤ sample_at window i

-- the sum of a window's samples, and that of their squares
unfoldable pub sum_of : List ℤ → ℤ
sum_of window = sum_below (sample_at window) 8

unfoldable pub square_sum_of : List ℤ → ℤ
square_sum_of window = sum_below (square_at window) 8

-- 64 times the sum of the squares, less seven times the square of the sum. The latter is eight times the former sum in
-- a window of one value, so that of a constant, which is no tone, only an eighth counts.
unfoldable pub power : List ℤ → ℤ
power window = pos 64 *ℤ square_sum_of window -ℤ pos 7 *ℤ (sum_of window *ℤ sum_of window)

-- a 256th of a sum, rounded down
abbrev pub part_of : ℤ → ℤ
part_of sum = int_div_euclid sum (pos 256)

-- the window's tone, a 256th of the sums with the sine and the cosine of that tone, and the power
unfoldable pub heard_window : List ℤ → HeardWindow
heard_window window = record {
  tone = tone_of window;
  sine = part_of (sine_sum (tone_of window) window);
  cosine = part_of (cosine_sum (tone_of window) window);
  power = power window;
}

-- as large as those of a window of sixteen-bit samples can be
pub record IsWithin (window : HeardWindow) : Type 0 where
  pub sine : unsigned_abs window.sine ≤ 10240000
  pub cosine : unsigned_abs window.cosine ≤ 10240000
  pub least : pos 0 ≤ℤ window.power
  pub most : window.power ≤ℤ pos (2 ^ 39)
