-- The twelve pure windows, by computation.
use Rattle.offset_slicers.proofs.Common.{◌≡◌, ℕ, ◌*◌, ◌<◌, true, refl, agree_below_at, Tone, Mark, Space, quarter}
use Rattle.offset_slicers.proofs.Common.{half_wave, cycle_sample, wave_sample, pure_window, same_tone, sum_below}
use Rattle.offset_slicers.proofs.Common.{sine_sum, cosine_sum, energy, tone_of}

same : (t u : Tone) → same_tone t u ≡ true → t ≡ u
same Mark Mark agree = refl
same Space Space agree = refl
same Mark Space agree = cc
same Space Mark agree = cc

-- a window of one tone is decided as that tone, at each of the six phases at which a bit can begin
pub tone_of-pure_window : (k : ℕ) (tone : Tone) → k < 6 → tone_of (pure_window (8 * k) tone) ≡ tone
unfolding pure_window wave_sample cycle_sample half_wave quarter sum_below sine_sum cosine_sum energy tone_of
tone_of-pure_window k Mark below =
    same _ _ (agree_below_at (λ j. same_tone (tone_of (pure_window (8 * j) Mark)) Mark) (λ _. true) 6 k refl below)
tone_of-pure_window k Space below =
    same _ _ (agree_below_at (λ j. same_tone (tone_of (pure_window (8 * j) Space)) Space) (λ _. true) 6 k refl below)
