-- A filtered sample: the weighted sum of samples near a wave is near that of the wave, and rounding it down to a sample of
-- sixteen bits takes little away.
use Rattle.wide_signal.proofs.Common.{◌≡◌, ℕ, zero, suc, ◌+◌, ◌-◌, ◌*◌, ◌/◌, ◌%◌, ◌<◌, ◌≤◌, ℤ, pos, ◌+ℤ◌, ◌-ℤ◌, ◌*ℤ◌}
use Rattle.wide_signal.proofs.Common.{List, ◌++◌, length, get_or, refl, ap, sym, ◌∙◌, arith, unsigned_abs, sum_below}
use Rattle.wide_signal.proofs.Common.{distance, taps}
use Rattle.wide_signal.proofs.Common.{ints}
use Rattle.std.proofs.Common.{negsuc}
use Rattle.std.specs.Int.{int_div_euclid}
use Rattle.std.proofs.Math.IntN.{*ℤ_comm}
use Rattle.std.proofs.Math.Nat.{mul-le-mul, mul-add}
use Rattle.std.proofs.lemmas.Int.{clamps}
use Rattle.std.proofs.lemmas.List.{get_or-append_right, length-replicate}
use Rattle.std.proofs.lemmas.List.FromFn.{get_or-map-range_with_len}
use Rattle.offset_slicers.proofs.Common.{mul-le-mul_right, unsigned_abs-mul}
use Rattle.offset_slicers.proofs.DecisionLemmas.{sum_below-agree}
use Rattle.offset_slicers.proofs.IntegerLemmas.{mul-add_left, mul-add_right, mul-assoc, mul-sub_left}
use Rattle.resampler.specs.Filtered.{filtered, filtered_at, zeros}
use Rattle.resampler.specs.Taps.{nearest_sample, sample_of_sum, weighted_sum}

-- ---- sums

distance-mul : (level : ℕ) (w x s : ℤ) → distance level (w *ℤ s) (x *ℤ s) ≡ distance level w x * unsigned_abs s
distance-mul level w x s =
    ap unsigned_abs (
    (λ i. sym (mul-assoc (pos 10000) x s) i -ℤ sym (mul-assoc (pos level) w s) i)
    ∙ sym (mul-sub_left (pos 10000 *ℤ x) (pos level *ℤ w) s))
    ∙ unsigned_abs-mul (pos 10000 *ℤ x -ℤ pos level *ℤ w) s

distance-add : (level : ℕ) (w x v y : ℤ) → distance level (w +ℤ v) (x +ℤ y) ≤ distance level w x + distance level v y
distance-add level w x v y = omega (arith, ints, mul-add_right (pos 10000) x y, mul-add_right (pos level) w v)

-- the sizes of the first weights, added up
abbrev sizes_below : (ℕ → ℤ) → ℕ → ℕ
sizes_below weight zero = 0
sizes_below weight (suc n) = sizes_below weight n + unsigned_abs (weight n)

sums-distance : (level most : ℕ) (f g weight : ℕ → ℤ) (n : ℕ) → ((i : ℕ) → i < n → distance level (f i) (g i) ≤ most)
    → distance level (sum_below (λ i. f i *ℤ weight i) n) (sum_below (λ i. g i *ℤ weight i) n)
    ≤ most * sizes_below weight n
unfolding sum_below
sums-distance level most f g weight zero close = omega (arith, ints)
sums-distance level most f g weight (suc n) close =
    let both = distance-add level (sum_below (λ i. f i *ℤ weight i) n) (sum_below (λ i. g i *ℤ weight i) n)
    (f n *ℤ weight n) (g n *ℤ weight n) in
    let last = distance-mul level (f n) (g n) (weight n) in
    let few : distance level (f n) (g n) * unsigned_abs (weight n) ≤ most * unsigned_abs (weight n)
    = mul-le-mul_right (unsigned_abs (weight n)) (close n (omega arith)) in
    let before = sums-distance level most f g weight n (λ i below. close i (omega arith)) in
    let more = mul-add most (sizes_below weight n) (unsigned_abs (weight n)) in
    omega arith

sizes_of_taps : sizes_below (λ i. get_or taps i (pos 0)) 31 ≡ 1396
sizes_of_taps = refl

-- sums around a place, if each sample that they look at is off by a hundredth of the level at most
pub weighted_close : (level : ℕ) (f g : ℕ → ℤ) → ((i : ℕ) → i < 31 → distance level (f i) (g i) ≤ 100 * level)
    → distance level (sum_below (λ i. f i *ℤ get_or taps i (pos 0)) 31) (sum_below (λ i. g i *ℤ get_or taps i (pos 0)) 31)
    ≤ 139600 * level
weighted_close level f g close =
    let far = sums-distance level (100 * level) f g (λ i. get_or taps i (pos 0)) 31 close in
    let most : 100 * level * sizes_below (λ i. get_or taps i (pos 0)) 31 ≡ 100 * level * 1396
    = ap (λ n. 100 * level * n) sizes_of_taps in
    omega arith

-- ---- the filtered sample at a place

pub filtered-place : (x : List ℤ) (n : ℕ) → 15 ≤ n → n < length x
    → get_or (filtered x) n (pos 0)
    ≡ sample_of_sum (sum_below (λ i. get_or x (n + i - 15) (pos 0) *ℤ get_or taps i (pos 0)) 31)
unfolding weighted_sum
filtered-place x n late inside =
    get_or-map-range_with_len (filtered_at x) 0 (length x) n n (pos 0) inside (omega arith)
    ∙ ap sample_of_sum (sum_below-agree
    (λ i. get_or (zeros 15 ++ x) (n + i) (pos 0) *ℤ get_or taps i (pos 0))
    (λ i. get_or x (n + i - 15) (pos 0) *ℤ get_or taps i (pos 0)) 31
    (λ i below. ap (λ s. s *ℤ get_or taps i (pos 0))
    (get_or-append_right (zeros 15) x 15 (n + i) (pos 0) (length-replicate 15 (pos 0)) (omega arith))))

-- ---- rounding

-- a number rounded down to 1024ths
rounded_down : (z : ℤ) → unsigned_abs (z -ℤ pos 1024 *ℤ int_div_euclid z (pos 1024)) < 1024
rounded_down (pos n) =
    let q : ℕ = n / 1024 in
    let rest : n ≡ 1024 * q + n % 1024 = omega arith in
    omega (arith, ints)
rounded_down (negsuc n) =
    let q : ℕ = n / 1024 in
    let rest : n ≡ 1024 * q + n % 1024 = omega arith in
    omega (arith, ints)

-- a sample of sixteen bits is no farther from what fits them
clamped_near : (z t : ℤ) → unsigned_abs t ≤ 324230000
    → unsigned_abs (pos 10000 *ℤ nearest_sample z -ℤ t) ≤ unsigned_abs (pos 10000 *ℤ z -ℤ t)
clamped_near z t small = omega (arith, ints, clamps)

-- All errors together: those of the samples, of the filter, of the level that is rounded down, and of the sample that is.
together : (level gained : ℕ) (lf lw gw rw s d : ℤ) → 500 ≤ level → 1071 * level ≤ 1024 * gained + 1023
    → unsigned_abs (pos 10000 *ℤ s -ℤ lf) ≤ 139600 * level → unsigned_abs (lf -ℤ pos 1071 *ℤ lw) ≤ 882900 * level
    → pos 1024 *ℤ gw +ℤ rw ≡ pos 1071 *ℤ lw → unsigned_abs rw ≤ 10240000
    → unsigned_abs (s -ℤ pos 1024 *ℤ d) < 1024 → unsigned_abs (pos 10000 *ℤ d -ℤ gw) ≤ 1000 * gained
together level gained lf lw gw rw s d least gain near scaled parts rest down =
    let first : unsigned_abs (pos 10000 *ℤ s -ℤ pos 1071 *ℤ lw) ≤ 1022500 * level
    = omega (arith, ints, near, scaled) in
    let second : unsigned_abs (pos 10240000 *ℤ d -ℤ pos 10000 *ℤ s) ≤ 10240000 = omega (arith, ints, down) in
    let third : unsigned_abs (pos 1071 *ℤ lw -ℤ pos 1024 *ℤ gw) ≤ 10240000 = omega (arith, ints, parts, rest) in
    let fourth : unsigned_abs (pos 10240000 *ℤ d -ℤ pos 1024 *ℤ gw) ≤ 1022500 * level + 20480000
    = omega (arith, ints, first, second, third) in
    omega (arith, ints, fourth, least, gain)

module _ (level : ℕ) (w f s : ℤ) (least : 500 ≤ level) (most : level ≤ 31000) (small : unsigned_abs w ≤ 10000)
    (close : unsigned_abs (f -ℤ pos 1071 *ℤ w) ≤ 882900) (near : distance level f s ≤ 139600 * level) where
  abbrev gained : ℕ
  gained = 1071 * level / 1024

  abbrev left : ℕ
  left = 1071 * level % 1024

  scaled : unsigned_abs (pos level *ℤ f -ℤ pos 1071 *ℤ (pos level *ℤ w)) ≤ 882900 * level
  scaled =
      let whole : (f -ℤ pos 1071 *ℤ w) *ℤ pos level ≡ pos level *ℤ f -ℤ pos 1071 *ℤ (pos level *ℤ w)
      = mul-sub_left f (pos 1071 *ℤ w) (pos level)
      ∙ (λ i. *ℤ_comm f (pos level) i
      -ℤ (mul-assoc (pos 1071) w (pos level) ∙ ap (λ z. pos 1071 *ℤ z) (*ℤ_comm w (pos level))) i) in
      let size = unsigned_abs-mul (f -ℤ pos 1071 *ℤ w) (pos level) in
      let few : unsigned_abs (f -ℤ pos 1071 *ℤ w) * level ≤ 882900 * level = mul-le-mul_right level close in
      let same = ap unsigned_abs whole in
      omega arith

  parts : pos 1024 *ℤ (pos gained *ℤ w) +ℤ pos left *ℤ w ≡ pos 1071 *ℤ (pos level *ℤ w)
  parts =
      let whole : 1024 * gained + left ≡ 1071 * level = omega arith in
      let sum : pos 1024 *ℤ pos gained +ℤ pos left ≡ pos 1071 *ℤ pos level = omega (arith, ints) in
      (λ i. sym (mul-assoc (pos 1024) (pos gained) w) i +ℤ pos left *ℤ w)
      ∙ sym (mul-add_left (pos 1024 *ℤ pos gained) (pos left) w)
      ∙ ap (λ z. z *ℤ w) sum
      ∙ mul-assoc (pos 1071) (pos level) w

  -- What is rounded down is near the wave at 1.046 times the level.
  pub near_rounded : distance gained w (sample_of_sum s) ≤ 1000 * gained
  near_rounded =
      let rest : unsigned_abs (pos left *ℤ w) ≤ 1024 * 10000
      = let size = unsigned_abs-mul (pos left) w in
      let few : left * unsigned_abs w ≤ 1024 * 10000 = mul-le-mul (let l : left ≤ 1024 = omega arith in l) small in
      omega arith in
      let fits : unsigned_abs (pos gained *ℤ w) ≤ 324230000
      = let size = unsigned_abs-mul (pos gained) w in
      let few : gained * unsigned_abs w ≤ 32423 * 10000 = mul-le-mul (let l : gained ≤ 32423 = omega arith in l) small in
      omega arith in
      let down = rounded_down s in
      let d : ℤ = int_div_euclid s (pos 1024) in
      let clamp = clamped_near d (pos gained *ℤ w) fits in
      let gain : 1071 * level ≤ 1024 * gained + 1023 = omega arith in
      let off = together level gained (pos level *ℤ f) (pos level *ℤ w) (pos gained *ℤ w) (pos left *ℤ w) s d least gain near
      scaled parts rest down in
      omega (arith, clamp, off)
