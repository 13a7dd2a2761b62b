-- Samples from 48,000 a second to 9600 and back. On the way down the filter comes first, so that nothing above the band
-- folds into it; on the way up four zeros stand after each sample, and the filter makes of them what lies between.
use Rattle.std.specs.Prelude.{ℕ, ◌+◌, ◌-◌, ◌*◌, ◌/◌, ℤ, pos, ◌*ℤ◌, List, [], ◌∷◌, ◌++◌, length, map, replicate}
use Rattle.std.specs.List.{flat_map, range_with_len}
use Rattle.resampler.specs.Taps.{weighted_sum, sample_of_sum}

abbrev pub zeros : ℕ → List ℤ
zeros n = replicate n (pos 0)

-- ---- down

-- the filtered sample at a place: the sum over j from -15 to 15 of h(j) times the sample j places on, where zeros stand
-- before the first sample and after the last
abbrev pub filtered_at : List ℤ → ℕ → ℤ
filtered_at x n = sample_of_sum (weighted_sum (zeros 15 ++ x) n)

-- the filtered samples of the first places
abbrev pub filtered_first : ℕ → List ℤ → List ℤ
filtered_first count x = map (filtered_at x) (range_with_len 0 count)

-- the filtered samples, as many as there are samples
abbrev pub filtered : List ℤ → List ℤ
filtered x = filtered_first (length x) x

-- those that the samples settle, whatever follows: all but the last fifteen
abbrev pub settled : List ℤ → List ℤ
settled x = filtered_first (length x - 15) x

-- each fifth filtered sample, from the first on
abbrev pub decimated_first : ℕ → List ℤ → List ℤ
decimated_first count x = map (λ k. filtered_at x (5 * k)) (range_with_len 0 count)

-- the samples at 9600 a second of samples at 48,000
abbrev pub decimated : List ℤ → List ℤ
decimated x = decimated_first ((length x + 4) / 5) x

-- those that the samples settle
abbrev pub decimated_settled : List ℤ → List ℤ
decimated_settled x = decimated_first ((length x - 15 + 4) / 5) x

-- ---- up

-- four zeros after each sample
abbrev pub stuffed : List ℤ → List ℤ
stuffed x = flat_map (λ sample. sample ∷ pos 0 ∷ pos 0 ∷ pos 0 ∷ pos 0 ∷ []) x

-- The sample at a place, 15 places late: the sum over j from -15 to 15 of h(j) times the stuffed sample j - 15 places
-- on, five times, since four of five are zeros.
abbrev pub interpolated_at : List ℤ → ℕ → ℤ
interpolated_at x n = sample_of_sum (pos 5 *ℤ weighted_sum (zeros 30 ++ stuffed x) n)

-- the samples at 48,000 a second of samples at 9600
abbrev pub interpolated : List ℤ → List ℤ
interpolated x = map (interpolated_at x) (range_with_len 0 (5 * length x))
