-- The wave at 48,000 samples a second by place: a sample depends on its phase modulo 240 alone, each fifth one is that of
-- 9600, and the samples of three tones in a row are those of the three alone.
use Rattle.wide_signal.proofs.Common.{◌≡◌, ℕ, zero, suc, ◌+◌, ◌-◌, ◌*◌, ◌/◌, ◌%◌, ◌<◌, ◌≤◌, ℤ, pos, ◌-ℤ◌, Bool, true}
use Rattle.wide_signal.proofs.Common.{List, [], ◌∷◌, ◌++◌, length, get_or, take, drop, refl, ap, sym, ◌∙◌, subst, arith}
use Rattle.wide_signal.proofs.Common.{sum_by, unsigned_abs, Tone, Mark, wave_sample, phase_step, fine_phase, fine_sample}
use Rattle.wide_signal.proofs.Common.{ints, cycle_sample, half_wave, quarter, fine_cycle, fine_half, fine_quarter}
use Rattle.std.proofs.Common.{nat_le, get_or-drop, take-add}
use Rattle.std.proofs.lemmas.Bool.{agree_below_at, leb-true}
use Rattle.std.proofs.lemmas.List.Sums.{sum_by-append}

-- ---- phases

pub fine_sample-mod : (p q : ℕ) → p % 240 ≡ q % 240 → fine_sample p ≡ fine_sample q
unfolding fine_sample
fine_sample-mod p q same = ap fine_cycle same

pub wave_sample-mod : (p q : ℕ) → p % 48 ≡ q % 48 → wave_sample p ≡ wave_sample q
unfolding wave_sample
wave_sample-mod p q same = ap cycle_sample same

-- each fifth sample is that of 9600 samples a second
fifth_at : (k : ℕ) → k < 48 → unsigned_abs (fine_sample (5 * k) -ℤ wave_sample k) ≤ 0
unfolding fine_sample fine_cycle fine_half fine_quarter wave_sample cycle_sample half_wave quarter
fifth_at k below =
    leb-true _ _
    (agree_below_at (λ j. nat_le (unsigned_abs (fine_sample (5 * j) -ℤ wave_sample j)) 0) (λ _. true) 48 k refl below)

pub fifth : (p : ℕ) → fine_sample (5 * p) ≡ wave_sample p
fifth p =
    let here : fine_sample (5 * (p % 48)) ≡ wave_sample (p % 48) = omega (arith, ints, fifth_at (p % 48) (omega arith)) in
    fine_sample-mod (5 * p) (5 * (p % 48)) (omega arith) ∙ here ∙ wave_sample-mod (p % 48) p (omega arith)

-- ---- places

pub sum-take_more : (tones : List Tone) (a k : ℕ)
    → sum_by phase_step (take (a + k) tones) ≡ sum_by phase_step (take a tones) + sum_by phase_step (take k (drop a tones))
sum-take_more tones a k =
    ap (sum_by phase_step) (take-add a k tones) ∙ sum_by-append phase_step (take a tones) (take k (drop a tones))

-- the samples from a tone on
pub fine_phase-drop : (start : ℕ) (tones : List Tone) (a n : ℕ)
    → fine_phase start tones (40 * a + n) ≡ fine_phase (start + 40 * sum_by phase_step (take a tones)) (drop a tones) n
fine_phase-drop start tones a n =
    let place : (40 * a + n) / 40 ≡ a + n / 40 = omega arith in
    let within : (40 * a + n) % 40 ≡ n % 40 = omega arith in
    let sum : sum_by phase_step (take ((40 * a + n) / 40) tones)
    ≡ sum_by phase_step (take a tones) + sum_by phase_step (take (n / 40) (drop a tones))
    = ap (λ k. sum_by phase_step (take k tones)) place ∙ sum-take_more tones a (n / 40) in
    let tone : phase_step (get_or tones ((40 * a + n) / 40) Mark) ≡ phase_step (get_or (drop a tones) (n / 40) Mark)
    = ap (λ k. phase_step (get_or tones k Mark)) place ∙ ap phase_step (sym (get_or-drop a tones (n / 40) Mark)) in
    let product : (40 * a + n) % 40 * phase_step (get_or tones ((40 * a + n) / 40) Mark)
    ≡ n % 40 * phase_step (get_or (drop a tones) (n / 40) Mark)
    = (λ i. within i * tone i) in
    omega (arith, sum, product)

-- which tone of three a sample is of
three_at : (q n k : ℕ) (p c f : Tone) (rest : List Tone) → n / 40 ≡ k → k < 3
    → fine_phase q (p ∷ c ∷ f ∷ rest) n ≡ fine_phase q (p ∷ c ∷ f ∷ []) n
three_at q n zero p c f rest at below =
    ap (λ k. q + 40 * sum_by phase_step (take k (p ∷ c ∷ f ∷ rest)) + n % 40 * phase_step (get_or (p ∷ c ∷ f ∷ rest) k Mark)) at
    ∙ sym (ap (λ k. q + 40 * sum_by phase_step (take k (p ∷ c ∷ f ∷ [])) + n % 40 * phase_step (get_or (p ∷ c ∷ f ∷ []) k Mark)) at)
three_at q n (suc zero) p c f rest at below =
    ap (λ k. q + 40 * sum_by phase_step (take k (p ∷ c ∷ f ∷ rest)) + n % 40 * phase_step (get_or (p ∷ c ∷ f ∷ rest) k Mark)) at
    ∙ sym (ap (λ k. q + 40 * sum_by phase_step (take k (p ∷ c ∷ f ∷ [])) + n % 40 * phase_step (get_or (p ∷ c ∷ f ∷ []) k Mark)) at)
three_at q n (suc (suc zero)) p c f rest at below =
    ap (λ k. q + 40 * sum_by phase_step (take k (p ∷ c ∷ f ∷ rest)) + n % 40 * phase_step (get_or (p ∷ c ∷ f ∷ rest) k Mark)) at
    ∙ sym (ap (λ k. q + 40 * sum_by phase_step (take k (p ∷ c ∷ f ∷ [])) + n % 40 * phase_step (get_or (p ∷ c ∷ f ∷ []) k Mark)) at)
three_at q n (suc (suc (suc k))) p c f rest at below = absurd (omega arith)

-- the samples of the first three tones
pub fine_phase-three : (q n : ℕ) (p c f : Tone) (rest : List Tone) → n < 120
    → fine_phase q (p ∷ c ∷ f ∷ rest) n ≡ fine_phase q (p ∷ c ∷ f ∷ []) n
fine_phase-three q n p c f rest below = three_at q n (n / 40) p c f rest refl (omega arith)

-- A sample in three tones that stand at a place among others: that of the three alone, from a phase of six.
pub sample_in_three : (start s a n : ℕ) (tones rest : List Tone) (p c f : Tone) → n < 120 → drop a tones ≡ p ∷ c ∷ f ∷ rest
    → (start + 40 * sum_by phase_step (take a tones)) % 240 ≡ (40 * s) % 240
    → fine_sample (fine_phase start tones (40 * a + n)) ≡ fine_sample (fine_phase (40 * s) (p ∷ c ∷ f ∷ []) n)
sample_in_three start s a n tones rest p c f below are same =
    let q : ℕ = start + 40 * sum_by phase_step (take a tones) in
    ap fine_sample (fine_phase-drop start tones a n)
    ∙ ap (λ ts. fine_sample (fine_phase q ts n)) are
    ∙ ap fine_sample (fine_phase-three q n p c f rest below)
    ∙ fine_sample-mod (fine_phase q (p ∷ c ∷ f ∷ []) n) (fine_phase (40 * s) (p ∷ c ∷ f ∷ []) n) (omega arith)
