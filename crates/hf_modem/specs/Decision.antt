-- The decision of a correlator on a window of 32 samples, which are one bit at 9600 samples and 300 bits a second.
use Rattle.std.specs.Prelude.{ℕ, ◌+◌, ◌*◌, ℤ, pos, ◌*ℤ◌, List, slice_index_or, nat_le, if◌then◌else◌}
use Rattle.tone_table.specs.declared.tone.Tone.{Tone}
use Rattle.tone_table.specs.declared.tone.Tone.TheVariants.{Mark, Space}
use Rattle.tone_table.specs.Sine.{wave_sample}
use Rattle.offset_slicers.specs.Decision.{sum_below, square}
use Rattle.hf_sender.specs.Tones.{phase_step}

-- a sample of a window times a tone's wave there, the wave being some steps on
abbrev pub product_at : Tone → ℕ → List ℤ → ℕ → ℤ
product_at tone shift window i = slice_index_or window i (pos 0) *ℤ wave_sample (i * phase_step tone + shift)

-- the correlation of a window with the sine of a tone
unfoldable pub sine_sum : Tone → List ℤ → ℤ
sine_sum tone window = sum_below (product_at tone 0 window) 32

-- the correlation with its cosine, a quarter of the 48 steps on
unfoldable pub cosine_sum : Tone → List ℤ → ℤ
cosine_sum tone window = sum_below (product_at tone 12 window) 32

-- the energy of a tone in a window
unfoldable pub energy : Tone → List ℤ → ℕ
energy tone window = square (sine_sum tone window) + square (cosine_sum tone window)

-- mark exactly when the energy of mark is at least that of space
unfoldable pub tone_of : List ℤ → Tone
tone_of window = if nat_le (energy Space window) (energy Mark window) then Mark else Space
