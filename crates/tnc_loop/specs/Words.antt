-- The random words of a loop, by their places.
use Rattle.std.specs.Prelude.{ℕ, zero, suc}
use Rattle.rand_pcg.specs.Lcg.{Lcg}
use Rattle.channel_access.specs.Words.{generator_of, next_word, after_word}

-- the generator of a seed
abbrev pub loop_generator : ℕ → Lcg
loop_generator seed = generator_of seed 1

-- the generator after so many of its words
abbrev pub following : ℕ → Lcg → Lcg
following zero generator = generator
following (suc count) generator = following count (after_word generator)

-- the word that stands after so many others, of 32 bits
abbrev pub word_at : ℕ → Lcg → ℕ
word_at place generator = next_word (following place generator)
