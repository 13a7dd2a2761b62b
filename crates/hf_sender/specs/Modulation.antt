-- Tones of short-wave packet as a wave of some level that begins at some phase.
use Rattle.std.specs.Prelude.{ℕ, ℤ, List}
use Rattle.tone_table.specs.declared.tone.Tone.{Tone}
use Rattle.afsk_modulator.specs.Level.{at_level}
use Rattle.afsk_modulator.specs.Modulation.{Modulation}
use Rattle.hf_sender.specs.Wave.{pure_window, phase_from}

-- a new transmission at a level
abbrev pub hf_start : ℕ → Modulation
hf_start level = record { phase = 0; level = level }

-- the 32 samples of a tone
abbrev pub hf_window : Modulation → Tone → List ℤ
hf_window m tone = at_level m.level (pure_window m.phase tone)

-- how it goes on after some tones
abbrev pub hf_after : Modulation → List Tone → Modulation
hf_after m tones = record m { phase = phase_from m.phase tones }
