-- The sums and the power of a window near a pure one. An error of a tenth of the level changes a correlation by at most
-- a tenth of what the sizes of its weights add up to.
use Rattle.std.proofs.Common.{◌≡◌, ℕ, zero, suc, ◌+◌, ◌*◌, ◌<◌, ◌≤◌, ℤ, pos, negsuc, ◌+ℤ◌, ◌-ℤ◌, ◌*ℤ◌, ◌≤ℤ◌}
use Rattle.std.proofs.Common.{unsigned_abs, List, length, get_or, true, refl, ap, sym, ◌∙◌, arith, nat_le}
use Rattle.std.proofs.lemmas.Bool.{leb-true}
use Rattle.std.proofs.lemmas.Int.{ints, unsigned_abs-mul}
use Rattle.std.proofs.lemmas.Nat.{mul-le}
use Rattle.std.proofs.Math.Nat.{mul-add, mul-le-mul_left, mul-le-mul_right}
use Rattle.std.proofs.Math.IntN.{*ℤ_comm, pos-*ℤ-pos}
use Rattle.tone_table.specs.declared.tone.Tone.{Tone}
use Rattle.tone_table.specs.declared.tone.Tone.TheVariants.{Mark, Space}
use Rattle.tone_table.specs.Sine.{wave_sample, cycle_sample, half_wave, quarter}
use Rattle.tone_table.specs.Tones.{phase_step}
use Rattle.offset_slicers.specs.Decision.{sum_below, sine_sum, cosine_sum}
use Rattle.offset_slicers.specs.Near.{IsNear, distance}
use Rattle.offset_slicers.proofs.IntegerLemmas.{mul-add_right, mul-sub_left, mul-assoc}
use Rattle.tone_carrier.specs.HeardWindows.{part_of, square_at, power, sum_of, square_sum_of}
use Rattle.tone_carrier.proofs.NumberLemmas.{square_least}
use Rattle.tone_carrier.proofs.BilinearLemmas.{IsBetween}

-- ---- sums of products

-- the distance of products by one weight
distance-mul : (level : ℕ) (w x s : ℤ) → distance level (w *ℤ s) (x *ℤ s) ≡ distance level w x * unsigned_abs s
distance-mul level w x s =
    ap unsigned_abs (
    (λ i. sym (mul-assoc (pos 10000) x s) i -ℤ sym (mul-assoc (pos level) w s) i)
    ∙ sym (mul-sub_left (pos 10000 *ℤ x) (pos level *ℤ w) s))
    ∙ unsigned_abs-mul (pos 10000 *ℤ x -ℤ pos level *ℤ w) s

-- sums are no farther apart than their parts together
distance-add : (level : ℕ) (w x v y : ℤ) → distance level (w +ℤ v) (x +ℤ y) ≤ distance level w x + distance level v y
distance-add level w x v y = omega (arith, ints, mul-add_right (pos 10000) x y, mul-add_right (pos level) w v)

-- the sizes of f 0 to f (n - 1), added up
abbrev sizes_below : (ℕ → ℤ) → ℕ → ℕ
sizes_below f zero = 0
sizes_below f (suc n) = sizes_below f n + unsigned_abs (f n)

-- the samples of a window, each times a weight
abbrev weighted : List ℤ → (ℕ → ℤ) → ℕ → ℤ
weighted w weight i = get_or w i (pos 0) *ℤ weight i

sums_near : (level : ℕ) (ws xs : List ℤ) (weight : ℕ → ℤ) (n : ℕ)
    → ((i : ℕ) → i < n → distance level (get_or ws i (pos 0)) (get_or xs i (pos 0)) ≤ 1000 * level)
    → distance level (sum_below (weighted ws weight) n) (sum_below (weighted xs weight) n)
    ≤ 1000 * level * sizes_below weight n
unfolding sum_below
sums_near level ws xs weight zero close = omega (arith, ints)
sums_near level ws xs weight (suc n) close =
    let w : ℤ = get_or ws n (pos 0) in
    let x : ℤ = get_or xs n (pos 0) in
    let both : distance level (sum_below (weighted ws weight) (suc n)) (sum_below (weighted xs weight) (suc n))
    ≤ distance level (sum_below (weighted ws weight) n) (sum_below (weighted xs weight) n) + distance level
    (w *ℤ weight n) (x *ℤ weight n)
    = distance-add level (sum_below (weighted ws weight) n) (sum_below (weighted xs weight) n) (w *ℤ weight n)
    (x *ℤ weight n) in
    let last = distance-mul level w x (weight n) in
    let most : distance level w x * unsigned_abs (weight n) ≤ 1000 * level * unsigned_abs (weight n)
    = mul-le-mul_right (unsigned_abs (weight n)) (close n (omega arith)) in
    let before = sums_near level ws xs weight n (λ i below. close i (omega arith)) in
    let more : 1000 * level * sizes_below weight (suc n)
    ≡ 1000 * level * sizes_below weight n + 1000 * level * unsigned_abs (weight n)
    = mul-add (1000 * level) (sizes_below weight n) (unsigned_abs (weight n)) in
    omega arith

abbrev weight_of : Tone → ℕ → ℕ → ℤ
weight_of tone shift i = wave_sample (i * phase_step tone + shift)

-- the weights of each correlator add up to less than 54,600
sine_weights : (tone : Tone) → nat_le (1000 * sizes_below (weight_of tone 0) 8) 54600000 ≡ true
unfolding wave_sample cycle_sample half_wave quarter
sine_weights Mark = refl
sine_weights Space = refl

cosine_weights : (tone : Tone) → nat_le (1000 * sizes_below (weight_of tone 12) 8) 54600000 ≡ true
unfolding wave_sample cycle_sample half_wave quarter
cosine_weights Mark = refl
cosine_weights Space = refl

slack_of : (level sizes far : ℕ) → far ≤ 1000 * level * sizes → 1000 * sizes ≤ 54600000 → far ≤ level * 54600000
slack_of level sizes far near few =
    let same : 1000 * level * sizes ≡ level * (1000 * sizes) = grind arith in
    let most = mul-le-mul_left level few in
    omega (arith, near, same, most)

pub sine_near : (level : ℕ) (tone : Tone) (ws xs : List ℤ) → length ws ≡ 8 → IsNear level ws xs
    → distance level (sine_sum tone ws) (sine_sum tone xs) ≤ level * 54600000
unfolding sine_sum
sine_near level tone ws xs whole near =
    slack_of level (sizes_below (weight_of tone 0) 8)
    (distance level (sum_below (weighted ws (weight_of tone 0)) 8) (sum_below (weighted xs (weight_of tone 0)) 8))
    (sums_near level ws xs (weight_of tone 0) 8 (λ i below. near.close i (omega arith)))
    (leb-true _ _ (sine_weights tone))

pub cosine_near : (level : ℕ) (tone : Tone) (ws xs : List ℤ) → length ws ≡ 8 → IsNear level ws xs
    → distance level (cosine_sum tone ws) (cosine_sum tone xs) ≤ level * 54600000
unfolding cosine_sum
cosine_near level tone ws xs whole near =
    slack_of level (sizes_below (weight_of tone 12) 8)
    (distance level (sum_below (weighted ws (weight_of tone 12)) 8) (sum_below (weighted xs (weight_of tone 12)) 8))
    (sums_near level ws xs (weight_of tone 12) 8 (λ i below. near.close i (omega arith)))
    (leb-true _ _ (cosine_weights tone))

-- ---- a 256th of a sum, rounded down

part_floor : (z : ℤ) → ((pos 256 *ℤ part_of z) ≤ℤ z) × (z ≤ℤ (pos 256 *ℤ part_of z +ℤ pos 255))
part_floor (pos n) = (omega (arith, ints), omega (arith, ints))
part_floor (negsuc n) = (omega (arith, ints), omega (arith, ints))

abbrev pub low_of : ℤ → ℤ
low_of sum = sum -ℤ pos 57160000

abbrev pub high_of : ℤ → ℤ
high_of sum = sum +ℤ pos 54600000

pub part_near : (level : ℕ) (w x : ℤ) → 1 ≤ level → distance level w x ≤ level * 54600000
    → IsBetween level (low_of w) (high_of w) (pos 2560000 *ℤ part_of x)
part_near level w x some near =
    let floor = part_floor x in
    let below = floor.0 in
    let above = floor.1 in
    let low = mul-sub_left w (pos 57160000) (pos level) in
    let low_swapped = *ℤ_comm (pos level) (low_of w) in
    let high = mul-add_right (pos level) w (pos 54600000) in
    let first = pos-*ℤ-pos level 54600000 in
    let second = pos-*ℤ-pos 57160000 level in
    let third = *ℤ_comm w (pos level) in
    record {
      least = omega (arith, ints, below, above, low, low_swapped, second, third, near);
      most = omega (arith, ints, below, above, high, first, near);
    }

-- ---- the power

-- how large the squares of samples can be, per square of the level and of a ten thousandth of it
abbrev pub loudest_below : List ℤ → ℕ → ℕ
loudest_below w zero = 0
loudest_below w (suc n) =
    loudest_below w n + (unsigned_abs (get_or w n (pos 0)) + 1000) * (unsigned_abs (get_or w n (pos 0)) + 1000)

square_near : (level : ℕ) (w x : ℤ) → distance level w x ≤ 1000 * level
    → (pos 100000000 *ℤ (x *ℤ x)) ≤ℤ pos ((level * level) * ((unsigned_abs w + 1000) * (unsigned_abs w + 1000)))
square_near level w x near =
    let most : 10000 * unsigned_abs x ≤ level * (unsigned_abs w + 1000)
    = omega (
      arith,
      ints,
      unsigned_abs-mul (pos 10000) x,
      unsigned_abs-mul (pos level) w,
      mul-add level (unsigned_abs w) 1000,
    ) in
    let both : (10000 * unsigned_abs x) * (10000 * unsigned_abs x)
    ≤ (level * (unsigned_abs w + 1000)) * (level * (unsigned_abs w + 1000))
    = mul-le (10000 * unsigned_abs x) (10000 * unsigned_abs x) (level * (unsigned_abs w + 1000))
    (level * (unsigned_abs w + 1000)) most most in
    let left : (10000 * unsigned_abs x) * (10000 * unsigned_abs x) ≡ 100000000 * (unsigned_abs x * unsigned_abs x)
    = grind arith in
    let right : (level * (unsigned_abs w + 1000)) * (level * (unsigned_abs w + 1000))
    ≡ (level * level) * ((unsigned_abs w + 1000) * (unsigned_abs w + 1000)) = grind arith in
    omega (arith, ints, both, left, right, unsigned_abs-mul x x)

squares_near : (level : ℕ) (ws xs : List ℤ) (n : ℕ)
    → ((i : ℕ) → i < n → distance level (get_or ws i (pos 0)) (get_or xs i (pos 0)) ≤ 1000 * level)
    → (pos 100000000 *ℤ sum_below (square_at xs) n) ≤ℤ pos ((level * level) * loudest_below ws n)
unfolding sum_below
squares_near level ws xs zero close = omega (arith, ints)
squares_near level ws xs (suc n) close =
    let before = squares_near level ws xs n (λ i below. close i (omega arith)) in
    let w : ℤ = get_or ws n (pos 0) in
    let last = square_near level w (get_or xs n (pos 0)) (close n (omega arith)) in
    let more : (level * level) * loudest_below ws (suc n)
    ≡ (level * level) * loudest_below ws n
    + (level * level) * ((unsigned_abs w + 1000) * (unsigned_abs w + 1000))
    = mul-add (level * level) (loudest_below ws n) ((unsigned_abs w + 1000) * (unsigned_abs w + 1000)) in
    omega (arith, ints, before, last, more)

pub power_near : (level : ℕ) (ws xs : List ℤ) → length ws ≡ 8 → IsNear level ws xs
    → (pos 100000000 *ℤ power xs) ≤ℤ pos (64 * ((level * level) * loudest_below ws 8))
unfolding power square_sum_of
power_near level ws xs whole near =
    omega (
      arith,
      ints,
      squares_near level ws xs 8 (λ i below. near.close i (omega arith)),
      square_least (sum_of xs),
    )
