-- The clock of the sender's bits. Its phase counts in 2^20 a bit and goes from -2^19 to 2^19; changes of tone are
-- expected at 0, and bits are read when it passes 2^19, half a bit later. It is a fold over the tones of all places.
use Rattle.std.specs.Prelude.{ℕ, zero, suc, ◌*◌, ℤ, pos, ◌+ℤ◌, ◌-ℤ◌, ◌*ℤ◌, int_le, Bool, true, false, if◌then◌else◌}
use Rattle.std.specs.Int.{int_div_euclid, int_max, int_min}
use Rattle.tone_table.specs.declared.tone.Tone.{Tone}
use Rattle.tone_table.specs.declared.tone.Tone.TheVariants.{Mark, Space}
use Rattle.tone_tracking.specs.declared.bit_clock.Pull.{Pull}
use Rattle.tone_tracking.specs.declared.bit_clock.Pull.TheVariants.{Slow, Fast}

-- the phase, how far it advances with each place, and the tone of the place before
pub record Clock : Type 0 where
  pub phase : ℤ
  pub rate : ℤ
  pub before : Tone

-- at first a bit takes eight places
abbrev pub new_clock : Clock
new_clock = record { phase = pos 0; rate = pos 131072; before = Mark }

-- the phase of a clock with the next place, before it passes the middle of a bit
abbrev pub advanced : Clock → ℤ
advanced clock = clock.phase +ℤ clock.rate

-- a bit is read at the next place
abbrev pub reads : Clock → Bool
reads clock = int_le (pos 524288) (advanced clock)

-- the phase at the next place
abbrev pub phase_next : Clock → ℤ
phase_next clock = if reads clock then advanced clock -ℤ pos 1048576 else advanced clock

-- by which part of its error, a third of the number, a change of tone pulls the clock
abbrev pub pull_of : Pull → ℕ
pull_of Slow = 32
pull_of Fast = 8

-- what a change at a phase takes from the rate
abbrev pub rate_correction : Pull → ℤ → ℤ
rate_correction pull phase = int_div_euclid phase (pos (16 * (pull_of pull * pull_of pull)))

-- the rate after a change at a phase: within 4.7 percent of an eighth of a bit
abbrev pub rate_pulled : Pull → ℤ → ℤ → ℤ
rate_pulled pull phase rate = int_max (pos 124928) (int_min (rate -ℤ rate_correction pull phase) (pos 137216))

-- the phase after a change at a phase
abbrev pub phase_pulled : Pull → ℤ → ℤ
phase_pulled pull phase = phase -ℤ int_div_euclid (pos 3 *ℤ phase) (pos (pull_of pull))

-- whether the tone changes
abbrev pub changes : Tone → Tone → Bool
changes Mark Mark = false
changes Mark Space = true
changes Space Mark = true
changes Space Space = false

-- the clock one place on: a change of tone pulls it, both the rate and the phase by what the phase is there
abbrev pub next_clock : Pull → Clock → Tone → Clock
next_clock pull clock tone = record {
  phase = if changes clock.before tone then phase_pulled pull (phase_next clock) else phase_next clock;
  rate = if changes clock.before tone then rate_pulled pull (phase_next clock) clock.rate else clock.rate;
  before = tone;
}

-- the clock after so many places, whose tones a function gives
unfoldable pub clock_after : Pull → (ℕ → Tone) → ℕ → Clock
clock_after pull tones zero = new_clock
clock_after pull tones (suc count) = next_clock pull (clock_after pull tones count) (tones count)

-- a bit is read at a place
abbrev pub is_reading : Pull → (ℕ → Tone) → ℕ → Bool
is_reading pull tones place = reads (clock_after pull tones place)
