-- Windows near a pure one are decided as it is.
use Rattle.std.proofs.Common.{◌≡◌, ℕ, ◌*◌, ◌<◌, ◌≤◌, ℤ, List, length, true, refl}
use Rattle.tone_table.specs.declared.tone.Tone.{Tone}
use Rattle.tone_table.specs.Sine.{quarter, half_wave, cycle_sample, wave_sample}
use Rattle.hf_sender.specs.Tones.{phase_step}
use Rattle.hf_sender.specs.Wave.{pure_window}
use Rattle.offset_slicers.specs.Decision.{sum_below}
use Rattle.hf_modem.specs.Decision.{sine_sum, cosine_sum, energy, tone_of}
use Rattle.offset_slicers.specs.Near.{IsNear}
use Rattle.offset_slicers.proofs.NearEnergies.{Correlators, is_clear, decided}

pub length-pure_window : (phase : ℕ) (tone : Tone) → length (pure_window phase tone) ≡ 32
unfolding pure_window
length-pure_window phase tone = refl

-- windows of 32 samples; the sizes of a correlator's weights add up to 215000 at most
abbrev correlators : Correlators
correlators = record { size = 32; step = phase_step; slack = 215000000 }

-- computed, for the six pure windows
all_clear : is_clear correlators 3 (λ k. pure_window (16 * k)) ≡ true
unfolding pure_window wave_sample cycle_sample half_wave quarter sum_below
all_clear = refl

pub tone_of-near : (level k : ℕ) (tone : Tone) (x : List ℤ) → 1 ≤ level → k < 3
    → IsNear level (pure_window (16 * k) tone) x → tone_of x ≡ tone
unfolding tone_of energy sine_sum cosine_sum
tone_of-near = decided correlators 3 (λ k. pure_window (16 * k)) (λ k. length-pure_window (16 * k)) all_clear
