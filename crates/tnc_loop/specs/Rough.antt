-- What --rough draws for a transmission, after its frame: its start phase and its level, a word each; a sample of noise
-- for each silent one; and an error for each sample that is sent, a word each.
use Rattle.std.specs.Prelude.{ℕ, ◌+◌, ◌-◌, ◌*◌, ◌/◌, ◌%◌, ℤ, pos, ◌+ℤ◌, ◌-ℤ◌, List, [], ◌∷◌, ◌++◌, length, map}
use Rattle.std.specs.Int.{cast_signed, w16}
use Rattle.rand_pcg.specs.Lcg.{Lcg}
use Rattle.afsk_modulator.specs.Signal.{Transmission}
use Rattle.afsk_modulator.specs.Transmission.{transmission_at}
use Rattle.clean_signal.specs.NearSignal.{Received}
use Rattle.tnc_loop.specs.Words.{following, word_at}
use Rattle.channel_access.specs.Words.{words}

-- one of the six phases at which a bit can begin
abbrev pub phase_drawn : Lcg → ℕ
phase_drawn generator = 8 * (word_at 0 generator % 6)

-- a level from 10 to 29,009
abbrev pub level_drawn : Lcg → ℕ
level_drawn generator = 10 + word_at 1 generator % 29000

-- a sample of noise: the low sixteen bits of a word, with a sign
abbrev pub noise_of : ℕ → ℤ
noise_of word = cast_signed w16 (word % 65536)

-- The most error of a sample: a tenth of the level, and one less, which leaves room for rounding.
abbrev pub most_error : ℕ → ℕ
most_error level = level / 10 - 1

-- the error of a word, from the most downwards to the most upwards
abbrev pub error_of : ℕ → ℕ → ℤ
error_of level word = pos (word % (2 * most_error level + 1)) -ℤ pos (most_error level)

-- samples, each with the error of a word of its own
abbrev pub with_errors : ℕ → List ℤ → Lcg → List ℤ
with_errors level [] generator = []
with_errors level (sample ∷ samples) generator =
    (sample +ℤ error_of level (word_at 0 generator)) ∷ with_errors level samples (following 1 generator)

-- a transmission, as it is received
abbrev pub rough_received : Transmission → Lcg → Received
rough_received t generator =
    record { transmission = t; phase = phase_drawn generator; level = level_drawn generator }

-- the samples of its flags and frames without errors
abbrev pub exact_samples : Received → List ℤ
exact_samples r =
    transmission_at r.phase r.level r.transmission.frames r.transmission.opening r.transmission.closing

-- its samples: the noise before it, and the others with their errors
unfoldable pub rough_samples : Transmission → Lcg → List ℤ
rough_samples t generator =
    map noise_of (words t.silence (following 2 generator))
    ++ with_errors (level_drawn generator) (exact_samples (rough_received t generator))
    (following t.silence (following 2 generator))

-- the generator after them
unfoldable pub after_rough : Transmission → Lcg → Lcg
after_rough t generator =
    following (length (exact_samples (rough_received t generator))) (following t.silence (following 2 generator))
