-- Bell 202 with a continuous phase: where the wave of some tones ends.
use Rattle.std.specs.Prelude.{ℕ, List, [], ◌∷◌}
use Rattle.tone_table.specs.declared.tone.Tone.{Tone}
use Rattle.tone_table.specs.Tones.{next_phase}

-- the phase after the windows of some tones that begin at a phase
abbrev pub phase_from : ℕ → List Tone → ℕ
phase_from phase [] = phase
phase_from phase (tone ∷ tones) = phase_from (next_phase phase tone) tones
