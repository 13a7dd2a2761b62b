-- What the filter makes of a wave: in any three tones in a row each fifth sample in the middle one is near the wave at
-- 9600 samples a second, at 1.046 times its level. That is a finite check.
use Rattle.wide_signal.proofs.Common.{◌≡◌, ℕ, zero, suc, ◌+◌, ◌-◌, ◌*◌, ◌/◌, ◌%◌, ◌<◌, ◌≤◌, ℤ, pos, ◌-ℤ◌, ◌*ℤ◌, Bool, true}
use Rattle.wide_signal.proofs.Common.{[], ◌∷◌, get_or, refl, arith, unsigned_abs, Tone, Mark, Space, wave_sample, phase_step}
use Rattle.wide_signal.proofs.Common.{sum_below, taps, fine_phase, fine_sample, fine_cycle, fine_half, fine_quarter}
use Rattle.wide_signal.proofs.Common.{cycle_sample, half_wave, quarter}
use Rattle.std.proofs.Common.{nat_le}
use Rattle.std.proofs.lemmas.Bool.{agree_below_at, leb-true}

-- the weighted sum around sample i of the middle one of three tones, which begin at a phase of six
abbrev pub filtered_wave : Tone → Tone → Tone → ℕ → ℕ → ℤ
filtered_wave p c f s i =
    sum_below (λ j. fine_sample (fine_phase (40 * s) (p ∷ c ∷ f ∷ []) (25 + 5 * i + j)) *ℤ get_or taps j (pos 0)) 31

-- the sample at 9600 a second in that place
abbrev pub plain_wave : Tone → Tone → ℕ → ℕ → ℤ
plain_wave p c s i = wave_sample (8 * s + 8 * phase_step p + i * phase_step c)

-- how far the sum is from 1071 times that sample
abbrev pub off : Tone → Tone → Tone → ℕ → ℕ → ℕ
off p c f s i = unsigned_abs (filtered_wave p c f s i -ℤ pos 1071 *ℤ plain_wave p c s i)

abbrev is_close : Tone → Tone → Tone → ℕ → Bool
is_close p c f k = nat_le (off p c f (k / 8) (k % 8)) 882900

close_at : (p c f : Tone) (k : ℕ) → k < 48 → is_close p c f k ≡ true
unfolding sum_below fine_sample fine_cycle fine_half fine_quarter wave_sample cycle_sample half_wave quarter
close_at Mark Mark Mark k below = agree_below_at (is_close Mark Mark Mark) (λ _. true) 48 k refl below
close_at Mark Mark Space k below = agree_below_at (is_close Mark Mark Space) (λ _. true) 48 k refl below
close_at Mark Space Mark k below = agree_below_at (is_close Mark Space Mark) (λ _. true) 48 k refl below
close_at Mark Space Space k below = agree_below_at (is_close Mark Space Space) (λ _. true) 48 k refl below
close_at Space Mark Mark k below = agree_below_at (is_close Space Mark Mark) (λ _. true) 48 k refl below
close_at Space Mark Space k below = agree_below_at (is_close Space Mark Space) (λ _. true) 48 k refl below
close_at Space Space Mark k below = agree_below_at (is_close Space Space Mark) (λ _. true) 48 k refl below
close_at Space Space Space k below = agree_below_at (is_close Space Space Space) (λ _. true) 48 k refl below

pub filtered_close : (p c f : Tone) (s i : ℕ) → s < 6 → i < 8 → off p c f s i ≤ 882900
filtered_close p c f s i sixth below =
    let which : (8 * s + i) / 8 ≡ s = omega arith in
    let where_in : (8 * s + i) % 8 ≡ i = omega arith in
    let close : off p c f ((8 * s + i) / 8) ((8 * s + i) % 8) ≤ 882900
    = leb-true _ _ (close_at p c f (8 * s + i) (omega arith)) in
    let same : off p c f ((8 * s + i) / 8) ((8 * s + i) % 8) ≡ off p c f s i = (λ j. off p c f (which j) (where_in j)) in
    omega arith
