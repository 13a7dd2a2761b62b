-- Windows near a pure one are decided as it is.
use Rattle.offset_slicers.proofs.Common.{◌≡◌, ℕ, ◌*◌, ◌<◌, ◌≤◌, ℤ, List, true, refl, Tone, quarter, half_wave}
use Rattle.offset_slicers.proofs.Common.{cycle_sample, wave_sample, phase_step, pure_window, sum_below, sine_sum}
use Rattle.offset_slicers.proofs.Common.{cosine_sum, energy, tone_of, IsNear}
use Rattle.offset_slicers.proofs.NearEnergies.{Correlators, is_clear, decided}
use Rattle.offset_slicers.proofs.WaveLemmas.{length-pure_window}

-- windows of eight samples; the sizes of a correlator's weights add up to 54600 at most
abbrev correlators : Correlators
correlators = record { size = 8; step = phase_step; slack = 54600000 }

-- computed, for the twelve pure windows
all_clear : is_clear correlators 6 (λ k. pure_window (8 * k)) ≡ true
unfolding pure_window wave_sample cycle_sample half_wave quarter sum_below
all_clear = refl

pub tone_of-near : (level k : ℕ) (tone : Tone) (x : List ℤ) → 1 ≤ level → k < 6
    → IsNear level (pure_window (8 * k) tone) x → tone_of x ≡ tone
unfolding tone_of energy sine_sum cosine_sum
tone_of-near = decided correlators 6 (λ k. pure_window (8 * k)) (λ k. length-pure_window (8 * k)) all_clear
