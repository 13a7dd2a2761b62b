-- What the words of a ring tell of the published list: one word a cell, and the end word after them.
use Rattle.std.specs.Prelude.{◌≡◌, ℕ, ◌+◌, ◌*◌, ◌/◌, ◌%◌, ◌<◌, ◌≤◌, ◌⊎◌, Bool, true, false, List, length, ℤ, Some}
use Rattle.std.specs.Prelude.{slice_get}
use Rattle.std.specs.Int.{w16, cast_signed, cast_unsigned}

-- the lap of a word: 1 more than the position whose sample it tells, and 0 if it tells none
abbrev pub lap_of : ℕ → ℕ
lap_of word = word / 65536

-- the sample of a word, as a 16-bit number in two's complement
abbrev pub sample_of : ℕ → ℤ
sample_of word = cast_signed w16 (word % 65536)

-- the word that tells a position's sample
abbrev pub word_of : ℕ → ℤ → ℕ
word_of position sample = (position + 1) * 65536 + cast_unsigned w16 sample

-- Cell j of n tells nothing while no position of it is published. From then on it tells the greatest published
-- position that is congruent to j modulo n, with its sample.
abbrev pub TellsCell : ℕ → List ℤ → ℕ → ℕ → Type 0
TellsCell n published j word = ((word ≡ 0) × (length published ≤ j))
    ⊎ ((p : ℕ) × (p % n ≡ j) × (p < length published) × (length published ≤ p + n) × (lap_of word ≡ p + 1)
    × (slice_get published p ≡ Some (sample_of word)))

-- The end word is 0, and after the end 1 more than the count of all samples.
abbrev pub TellsEnd : List ℤ → Bool → ℕ → Type 0
TellsEnd published ended word = ((word ≡ 0) × (ended ≡ false)) ⊎ ((word ≡ length published + 1) × (ended ≡ true))
