-- Bell 202 with a continuous phase: eight samples a bit, and each bit's tone begins at the phase where the one before
-- ended.
use Rattle.std.specs.Prelude.{ℕ, ◌+◌, ◌*◌, ℤ, List, [], ◌∷◌, ◌++◌, map}
use Rattle.std.specs.List.{range_with_len}
use Rattle.tone_table.specs.declared.tone.Tone.{Tone}
use Rattle.tone_table.specs.Sine.{wave_sample}
use Rattle.tone_table.specs.Tones.{phase_step, next_phase}

-- the eight samples of a tone from a phase on
unfoldable pub pure_window : ℕ → Tone → List ℤ
pure_window phase tone = map (λ i. wave_sample (phase + i * phase_step tone)) (range_with_len 0 8)

-- the samples of a list of tones from a phase on, a window for each
abbrev pub wave_from : ℕ → List Tone → List ℤ
wave_from phase [] = []
wave_from phase (tone ∷ tones) = pure_window phase tone ++ wave_from (next_phase phase tone) tones

-- a transmission begins at phase 0
abbrev pub wave : List Tone → List ℤ
wave tones = wave_from 0 tones
