-- Tones as a wave of some level that begins at some phase.
use Rattle.std.specs.Prelude.{ℕ, ◌<◌, ◌≤◌, ◌%◌, ◌≡◌, ℤ, List}
use Rattle.tone_table.specs.declared.tone.Tone.{Tone}
use Rattle.tone_table.specs.Wave.{pure_window, wave_from}
use Rattle.afsk_modulator.specs.Level.{at_level}
use Rattle.afsk_modulator.specs.Phase.{phase_from}

-- the phase at which the next window begins, in forty-eighths of a cycle, and the level
pub record Modulation : Type 0 where
  pub phase : ℕ
  pub level : ℕ

-- a new transmission at full amplitude
abbrev pub full : Modulation
full = record { phase = 0; level = 10000 }

-- the eight samples of a tone
abbrev pub tone_window : Modulation → Tone → List ℤ
tone_window m tone = at_level m.level (pure_window m.phase tone)

-- the samples of some tones
abbrev pub wave_of : Modulation → List Tone → List ℤ
wave_of m tones = at_level m.level (wave_from m.phase tones)

-- how it goes on after some tones
abbrev pub following : Modulation → List Tone → Modulation
following m tones = record m { phase = phase_from m.phase tones }

-- A bit begins at one of six phases, 0, 8, 16, 24, 32 or 40, since a window moves the phase by 48 or 88 steps.
pub record IsBitPhase (phase : ℕ) : Type 0 where
  pub below : phase < 48
  pub sixth : phase % 8 ≡ 0

-- From level 10 on rounding is less than a tenth of the level, and up to 32767 a sample fits into sixteen bits.
pub record IsLevel (level : ℕ) : Type 0 where
  pub least : 10 ≤ level
  pub most : level ≤ 32767
