-- A low-pass filter at 48,000 samples a second that keeps the tones of 1200 and 2200 Hz, flat to 0.1 dB, and takes out
-- what lies above 6600 Hz, by 47 dB or more. Its taps are mirrored, so every tone is late by the same time.
use Rattle.std.specs.Prelude.{ℕ, ◌+◌, ℤ, pos, neg_ℤ, ◌*ℤ◌, List, [], ◌∷◌, slice_index_or}
use Rattle.std.specs.Int.{int_div_euclid, int_max, int_min}
use Rattle.offset_slicers.specs.Decision.{sum_below}

abbrev minus : ℕ → ℤ
minus n = neg_ℤ (pos n)

-- the 31 taps h(-15) to h(15), in 1024ths; their sum is 1024
abbrev pub taps : List ℤ
taps =
    pos 1 ∷ pos 4 ∷ pos 6 ∷ pos 7 ∷ pos 4
    ∷ minus 4 ∷ minus 15 ∷ minus 26 ∷ minus 29 ∷ minus 19
    ∷ pos 7 ∷ pos 49 ∷ pos 99 ∷ pos 147 ∷ pos 183
    ∷ pos 196
    ∷ pos 183 ∷ pos 147 ∷ pos 99 ∷ pos 49 ∷ pos 7
    ∷ minus 19 ∷ minus 29 ∷ minus 26 ∷ minus 15 ∷ minus 4
    ∷ pos 4 ∷ pos 7 ∷ pos 6 ∷ pos 4 ∷ pos 1 ∷ []

-- the sum of 31 samples from a place on, each times its tap; past the last sample there are zeros
unfoldable pub weighted_sum : List ℤ → ℕ → ℤ
weighted_sum x n = sum_below (λ i. slice_index_or x (n + i) (pos 0) *ℤ slice_index_or taps i (pos 0)) 31

-- the sample of sixteen bits that is nearest
abbrev pub nearest_sample : ℤ → ℤ
nearest_sample z = int_max (minus 32768) (int_min z (pos 32767))

-- a sum of so many 1024ths as a sample, rounded down
abbrev pub sample_of_sum : ℤ → ℤ
sample_of_sum sum = nearest_sample (int_div_euclid sum (pos 1024))
