-- Correlations by the samples of their windows.
use Rattle.hf_tracking.proofs.Common.{◌≡◌, ℕ, ◌+◌, ◌*◌, ◌/◌, ◌%◌, ◌<◌, ◌≤◌, ℤ, pos, ◌+ℤ◌, ◌*ℤ◌, neg_ℤ, List, get_or, ap}
use Rattle.hf_tracking.proofs.Common.{◌∙◌, arith, unsigned_abs, Tone, Mark, Space, sum_below}
use Rattle.hf_tracking.proofs.Common.{correlation, correlations, fine_weight, phase_at, phase_step}
use Rattle.hf_tracking.proofs.Common.{FitsSigned, to_z, of_z, to_z-of_z, w32, w64, ints, map, ◌-ℤ◌}
use Rattle.std.proofs.Common.{nat_le, true, refl}
use Rattle.std.proofs.lemmas.List.FromFn.{get_or-map-range_with_len}
use Rattle.std.specs.List.{range_with_len}
use Rattle.std.proofs.lemmas.Bool.{agree_below_at, leb-true}
use Rattle.std.specs.Int.{int_div_euclid}
use Rattle.offset_slicers.proofs.DecisionLemmas.{sum_below-agree}
use Rattle.tone_table.specs.Sine.{quarter, half_wave, cycle_sample, wave_sample}
use Rattle.tone_tracking.specs.Correlation.{weight}
use Rattle.hf_tracking.specs.Correlation.{product_at}

-- each cycle is like the one before
pub weight-cycle : (p q : ℕ) → p % 48 ≡ q % 48 → weight p ≡ weight q
unfolding weight wave_sample
weight-cycle p q same = ap (λ k. int_div_euclid (cycle_sample k +ℤ pos 50) (pos 100)) same

-- so are 384ths
pub fine_weight-turn : (p k : ℕ) → fine_weight (p % 384 + k) ≡ fine_weight (p + k)
fine_weight-turn p k = weight-cycle ((p % 384 + k) / 8) ((p + k) / 8) (omega arith)

-- no weight is above 100
pub weight_small : (phase : ℕ) → unsigned_abs (weight phase) ≤ 100
unfolding weight wave_sample cycle_sample half_wave quarter
weight_small phase =
    leb-true _ _ (agree_below_at (λ k. nat_le (unsigned_abs (int_div_euclid (cycle_sample k +ℤ pos 50) (pos 100))) 100)
    (λ _. true) 48 (phase % 48) refl (omega arith))

-- a window begins at its phase, within a turn
pub begins_at : (bank number place k : ℕ) → number ≡ bank
    → fine_weight (4 * (place * (64 + number)) % 384 + k) ≡ fine_weight (phase_at bank place + k)
begins_at bank number place k same =
    fine_weight-turn (4 * (place * (64 + number))) k ∙ ap (λ b. fine_weight (4 * (place * (64 + b)) + k)) same

-- the weights of as many cycles as a window can reach
unfoldable pub wave : List ℤ
wave = map weight (range_with_len 0 352)

-- what is read at a phase is the weight there, and a weight fits
pub read : (phase : ℕ) → phase < 2816 → to_z w32 (of_z w32 (get_or wave (phase / 8) (pos 0))) ≡ fine_weight phase
unfolding wave
read phase below =
    let n : ℕ = phase / 8 in
    let small : unsigned_abs (weight n) ≤ 100 = weight_small n in
    let fits : FitsSigned w32 (weight n) = search (arith, ints) in
    ap (λ z. to_z w32 (of_z w32 z)) (get_or-map-range_with_len weight 0 352 n n (pos 0) (omega arith) (omega arith))
    ∙ to_z-of_z w32 (weight n) fits

-- what a window's sums are, the phase at which it begins being known within a turn
pub sum-product_at : (bank shift begin from step place : ℕ) (tone : Tone) (window x : List ℤ)
    → ((k : ℕ) → fine_weight (begin + k) ≡ fine_weight (phase_at bank place + k)) → step ≡ phase_step bank tone
    → from ≡ begin + shift
    → ((i : ℕ) → i < 32 → get_or window i (pos 0) ≡ get_or x (4 * place + i) (pos 0))
    → sum_below (λ i. get_or window i (pos 0) *ℤ fine_weight (from + i * step)) 32
    ≡ sum_below (product_at bank tone shift x place) 32
sum-product_at bank shift begin from step place tone window x turn steps starts same =
    sum_below-agree (λ i. get_or window i (pos 0) *ℤ fine_weight (from + i * step))
    (product_at bank tone shift x place) 32
    (λ i below.
    let there : fine_weight (from + i * step) ≡ fine_weight (phase_at bank place + shift + i * phase_step bank tone)
    = ap (λ b. fine_weight (b + i * step)) starts
    ∙ ap fine_weight (let e : begin + shift + i * step ≡ begin + (shift + i * step) = omega arith in e)
    ∙ turn (shift + i * step)
    ∙ ap (λ s. fine_weight (phase_at bank place + (shift + i * s))) steps
    ∙ ap fine_weight (let e : phase_at bank place + (shift + i * phase_step bank tone)
    ≡ phase_at bank place + shift + i * phase_step bank tone = omega arith in e) in
    λ j. same i below j *ℤ there j)

-- a sum as it is widened and given back, and turned round
pub given_is : (sum wide : ℤ) → unsigned_abs sum ≤ 104857600 → wide ≡ to_z w32 (of_z w32 sum)
    → to_z w64 (of_z w64 wide) ≡ sum
given_is sum wide small is =
    let fits : FitsSigned w32 sum = omega (arith, ints) in
    let same : wide ≡ sum = is ∙ to_z-of_z w32 sum fits in
    let fits_wide : FitsSigned w64 sum = omega (arith, ints) in
    ap (λ z. to_z w64 (of_z w64 z)) same ∙ to_z-of_z w64 sum fits_wide

pub negated_is : (sum wide : ℤ) → unsigned_abs sum ≤ 104857600 → wide ≡ to_z w32 (of_z w32 sum)
    → to_z w64 (of_z w64 (pos 0 -ℤ to_z w64 (of_z w64 wide))) ≡ neg_ℤ sum
negated_is sum wide small is =
    let same = given_is sum wide small is in
    let fits : FitsSigned w64 (neg_ℤ sum) = omega (arith, ints) in
    let less : pos 0 -ℤ sum ≡ neg_ℤ sum = omega (arith, ints) in
    ap (λ z. to_z w64 (of_z w64 (pos 0 -ℤ z))) same ∙ ap (λ z. to_z w64 (of_z w64 z)) less
    ∙ to_z-of_z w64 (neg_ℤ sum) fits

pub negated_small : (sum : ℤ) → unsigned_abs sum ≤ 104857600 → unsigned_abs (neg_ℤ sum) ≤ 104857600
negated_small sum small = omega (arith, ints)

-- windows with the same samples have the same correlations
correlation-agree : (bank : ℕ) (tone : Tone) (x y : List ℤ) (place : ℕ)
    → ((i : ℕ) → i < 32 → get_or x (4 * place + i) (pos 0) ≡ get_or y (4 * place + i) (pos 0))
    → correlation bank tone x place ≡ correlation bank tone y place
unfolding correlation
correlation-agree bank tone x y place same =
    let sums : (shift : ℕ) → sum_below (product_at bank tone shift x place) 32 ≡ sum_below
    (product_at bank tone shift y place) 32
    = λ shift. sum_below-agree (product_at bank tone shift x place) (product_at bank tone shift y place) 32
    (λ i l. ap (λ z. z *ℤ fine_weight (phase_at bank place + shift + i * phase_step bank tone)) (same i l)) in
    let on = sums 64 in
    let at = sums 0 in
    λ i. record { a = on i; b = neg_ℤ (at i) }

pub correlations-agree : (bank : ℕ) (x y : List ℤ) (place : ℕ)
    → ((i : ℕ) → i < 32 → get_or x (4 * place + i) (pos 0) ≡ get_or y (4 * place + i) (pos 0))
    → correlations bank x place ≡ correlations bank y place
correlations-agree bank x y place same =
    let mark = correlation-agree bank Mark x y place same in
    let space = correlation-agree bank Space x y place same in
    λ i. record { mark = mark i; space = space i }
