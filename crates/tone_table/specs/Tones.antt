-- Bell 202: mark is 1200 Hz and space is 2200 Hz, here at 9600 samples a second and 1200 bits a second.
use Rattle.std.specs.Prelude.{ℕ, ◌+◌, ◌*◌, ◌%◌}
use Rattle.tone_table.specs.declared.tone.Tone.{Tone}
use Rattle.tone_table.specs.declared.tone.Tone.TheVariants.{Mark, Space}

-- how many forty-eighths of a cycle a sample of a tone advances the phase: 1200 / 9600 or 2200 / 9600 of a cycle
abbrev pub phase_step : Tone → ℕ
phase_step Mark = 6
phase_step Space = 11

-- the phase after the eight samples of one bit
abbrev pub next_phase : ℕ → Tone → ℕ
next_phase phase tone = (phase + 8 * phase_step tone) % 48
