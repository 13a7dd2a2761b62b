-- Short-wave packet with a continuous phase: 32 samples a bit, and each bit's tone begins at the phase where the one
-- before ended.
use Rattle.std.specs.Prelude.{ℕ, ◌+◌, ◌*◌, ◌<◌, ◌%◌, ◌≡◌, ℤ, List, [], ◌∷◌, ◌++◌, map}
use Rattle.std.specs.List.{range_with_len}
use Rattle.tone_table.specs.declared.tone.Tone.{Tone}
use Rattle.tone_table.specs.Sine.{wave_sample}
use Rattle.hf_sender.specs.Tones.{phase_step, next_phase}

-- the 32 samples of a tone from a phase on
unfoldable pub pure_window : ℕ → Tone → List ℤ
pure_window phase tone = map (λ i. wave_sample (phase + i * phase_step tone)) (range_with_len 0 32)

-- the samples of a list of tones from a phase on, a window for each
abbrev pub wave_from : ℕ → List Tone → List ℤ
wave_from phase [] = []
wave_from phase (tone ∷ tones) = pure_window phase tone ++ wave_from (next_phase phase tone) tones

-- a transmission begins at phase 0
abbrev pub wave : List Tone → List ℤ
wave tones = wave_from 0 tones

-- the phase after the windows of some tones that begin at a phase
abbrev pub phase_from : ℕ → List Tone → ℕ
phase_from phase [] = phase
phase_from phase (tone ∷ tones) = phase_from (next_phase phase tone) tones

-- A bit begins at one of three phases, 0, 16 or 32, since a window moves the phase by 256 or 288 steps.
pub record IsBitPhase (phase : ℕ) : Type 0 where
  pub below : phase < 48
  pub third : phase % 16 ≡ 0
