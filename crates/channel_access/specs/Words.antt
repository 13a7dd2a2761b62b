-- Random words: those of PCG XSH RR 64/32 (O'Neill, "PCG: a family of simple fast space-efficient statistically good
-- algorithms for random number generation"), by a seed and a stream. And the draws of the persistence rule.
use Rattle.std.specs.Prelude.{ℕ, zero, suc, ◌%◌, List, [], ◌∷◌}
use Rattle.rand_pcg.specs.Lcg.{Lcg, started, increment_of}
use Rattle.rand_pcg.specs.Pcg.{multiplier_64, pcg32}

-- the generator of a seed and a stream
abbrev pub generator_of : ℕ → ℕ → Lcg
generator_of seed stream = started 64 multiplier_64 seed (increment_of 64 stream)

-- the next word, of 32 bits, and the generator after it
abbrev pub next_word : Lcg → ℕ
next_word generator = (pcg32 generator).0

abbrev pub after_word : Lcg → Lcg
after_word generator = (pcg32 generator).1

-- so many words, one after another
abbrev pub words : ℕ → Lcg → List ℕ
words zero generator = []
words (suc count) generator = next_word generator ∷ words count (after_word generator)

-- the stream of the draws
abbrev pub draw_stream : ℕ
draw_stream = 1

-- a draw: the low eight bits of the next word
abbrev pub draw : Lcg → ℕ
draw generator = next_word generator % 256
