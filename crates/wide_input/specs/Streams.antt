-- The five streams of samples at 48,000 a second, which a filter has gone over: stream r is the samples r, r + 5, r + 10
-- and so on. Each has 9600 samples a second.
use Rattle.std.specs.Prelude.{ℕ, zero, suc, ℤ, List, [], ◌∷◌, length}

-- every fifth of the samples, after so many that are skipped; so the stream of a number is what follows that many
abbrev pub stream : ℕ → List ℤ → List ℤ
stream skipped [] = []
stream zero (sample ∷ x) = sample ∷ stream 4 x
stream (suc skipped) (sample ∷ x) = stream skipped x

-- how many samples the least stream has: the last one
abbrev pub least_count : List ℤ → ℕ
least_count x = length (stream 4 x)
