-- The decision of a Bell 202 correlator on a window of eight samples, which are one bit at 9600 samples a second.
use Rattle.std.specs.Prelude.{ℕ, zero, suc, ◌+◌, ◌*◌, ℤ, pos, ◌+ℤ◌, ◌*ℤ◌, List, unsigned_abs, slice_index_or, nat_le}
use Rattle.std.specs.Prelude.{if◌then◌else◌}
use Rattle.tone_table.specs.declared.tone.Tone.{Tone}
use Rattle.tone_table.specs.declared.tone.Tone.TheVariants.{Mark, Space}
use Rattle.tone_table.specs.Sine.{wave_sample}
use Rattle.tone_table.specs.Tones.{phase_step}

-- the sum of f 0 to f (n - 1)
unfoldable pub sum_below : (ℕ → ℤ) → ℕ → ℤ
sum_below f zero = pos 0
sum_below f (suc n) = sum_below f n +ℤ f n

-- the number at a place of one list times the number at that place of another
abbrev pub product_of : List ℤ → List ℤ → ℕ → ℤ
product_of xs ys i = slice_index_or xs i (pos 0) *ℤ slice_index_or ys i (pos 0)

-- a sample of a window times a tone's wave there, the wave being some steps on
abbrev pub product_at : Tone → ℕ → List ℤ → ℕ → ℤ
product_at tone shift window i = slice_index_or window i (pos 0) *ℤ wave_sample (i * phase_step tone + shift)

-- the correlation of a window with the sine of a tone
unfoldable pub sine_sum : Tone → List ℤ → ℤ
sine_sum tone window = sum_below (product_at tone 0 window) 8

-- the correlation with its cosine, a quarter of the 48 steps on
unfoldable pub cosine_sum : Tone → List ℤ → ℤ
cosine_sum tone window = sum_below (product_at tone 12 window) 8

abbrev pub square : ℤ → ℕ
square z = unsigned_abs z * unsigned_abs z

-- the energy of a tone in a window
unfoldable pub energy : Tone → List ℤ → ℕ
energy tone window = square (sine_sum tone window) + square (cosine_sum tone window)

-- mark exactly when the energy of mark is at least that of space
unfoldable pub tone_of : List ℤ → Tone
tone_of window = if nat_le (energy Space window) (energy Mark window) then Mark else Space
