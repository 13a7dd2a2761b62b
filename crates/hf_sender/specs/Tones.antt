-- Packet radio on short wave: 300 bits a second and a shift of 200 Hz. Mark is 1600 Hz and space is 1800 Hz, here at
-- 9600 samples a second, so that a bit has 32 samples.
use Rattle.std.specs.Prelude.{ℕ, ◌+◌, ◌*◌, ◌%◌}
use Rattle.tone_table.specs.declared.tone.Tone.{Tone}
use Rattle.tone_table.specs.declared.tone.Tone.TheVariants.{Mark, Space}

-- how many forty-eighths of a cycle a sample of a tone advances the phase: 1600 / 9600 or 1800 / 9600 of a cycle
abbrev pub phase_step : Tone → ℕ
phase_step Mark = 8
phase_step Space = 9

-- the phase after the 32 samples of one bit: 16 steps further for mark, the same for space
abbrev pub next_phase : ℕ → Tone → ℕ
next_phase phase tone = (phase + 32 * phase_step tone) % 48
