use Rattle.tone_tracking.proofs.Common.{◌≡◌, ◌≤◌, ℤ, pos, ◌-ℤ◌, ◌*ℤ◌, unsigned_abs, FitsSigned, to_z, of_z, w16, w32, ◌∙◌, ap}
use Rattle.tone_tracking.proofs.Common.{arith, ints, to_z-of_z, negsuc, refl, ◌/◌, ◌+◌}
use Rattle.std.specs.Int.{int_div_euclid}
use Rattle.std.specs.Int.Signed.{shr_z}
use Rattle.tone_tracking.proofs.mean_remover.less_mean.Goals as goal

-- an eighth of a sum, rounded down
eighth_small : (sum : ℤ) → unsigned_abs sum ≤ 1048576 → unsigned_abs (int_div_euclid sum (pos 8)) ≤ 131072
eighth_small (pos n) few = let eighth : n / 8 ≤ 131072 = omega arith in eighth
eighth_small (negsuc n) few = let eighth : n / 8 + 1 ≤ 131072 = omega arith in omega (arith, eighth)

-- as a shift by three bits gives it
shifted : (sum : ℤ) → unsigned_abs sum ≤ 1048576 → to_z w32 (of_z w32 (shr_z sum 8))
    ≡ to_z w32 (of_z w32 (int_div_euclid sum (pos 8)))
shifted (pos n) few = refl
shifted (negsuc n) few = refl

-- four times a sample, and a difference, as they are passed and given back
fourfold : (sample : ℤ) → unsigned_abs sample ≤ 32768
    → to_z w32 (of_z w32 (pos 4 *ℤ to_z w32 (of_z w32 sample))) ≡ pos 4 *ℤ sample
fourfold sample small = omega (arith, ints)

difference : (x y : ℤ) → unsigned_abs x ≤ 131072 → unsigned_abs y ≤ 131072
    → to_z w32 (of_z w32 (x -ℤ to_z w32 (of_z w32 y))) ≡ x -ℤ y
difference x y a b = omega (arith, ints)

passed : (sample sum : ℤ) → unsigned_abs sample ≤ 32768 → unsigned_abs sum ≤ 1048576
    → to_z w32 (of_z w32 (to_z w32 (of_z w32 (pos 4 *ℤ to_z w32 (of_z w32 sample)))
    -ℤ to_z w32 (of_z w32 (int_div_euclid sum (pos 8)))))
    ≡ pos 4 *ℤ sample -ℤ int_div_euclid sum (pos 8)
passed sample sum small few =
    let large : unsigned_abs (pos 4 *ℤ sample) ≤ 131072 = omega (arith, ints) in
    ap (λ z. to_z w32 (of_z w32 (z -ℤ to_z w32 (of_z w32 (int_div_euclid sum (pos 8)))))) (fourfold sample small)
    ∙ difference (pos 4 *ℤ sample) (int_div_euclid sum (pos 8)) large (eighth_small sum few)

pub returns-clause-value : goal.returns-clause-value
returns-clause-value c =
    let fits : FitsSigned w16 c.args.sample = c.ranges.sample in
    let small : unsigned_abs c.args.sample ≤ 32768 = omega (arith, ints) in
    let sum_fits : FitsSigned w32 c.args.sum = c.ranges.sum in
    let sample = c.from.ensures ∙ to_z-of_z w16 c.args.sample fits in
    let mean = ap (λ s. to_z w32 (of_z w32 (shr_z s 8))) (to_z-of_z w32 c.args.sum sum_fits) ∙ shifted c.args.sum c.requires in
    (λ i. to_z w32 (of_z w32 (to_z w32 (of_z w32 (pos 4 *ℤ to_z w32 (of_z w32 (sample i)))) -ℤ mean i)))
    ∙ passed c.args.sample c.args.sum small c.requires
