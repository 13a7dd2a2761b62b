use Rattle.hf_tracking.proofs.Common.{◌≡◌, ◌≤◌, ◌-ℤ◌, ◌*ℤ◌, ℤ, pos, unsigned_abs, to_z, of_z, w64, ap, subst, sym, ◌∙◌}
use Rattle.hf_tracking.proofs.Common.{arith, ints}
use Rattle.hf_tracking.proofs.PhasorLemmas.{part_is}
use Rattle.hf_tracking.proofs.phasors.gain.Goals as goal

-- four times a number less another, as they are passed and given back
gain_is : (d s : ℤ) → unsigned_abs d ≤ 336000000000000000 → unsigned_abs s ≤ 1280000000000000000
    → to_z w64 (of_z w64 (to_z w64 (of_z w64 (pos 4 *ℤ to_z w64 (of_z w64 d))) -ℤ to_z w64 (of_z w64 s))) ≡ pos 4 *ℤ d -ℤ s
gain_is d s small small_too =
    let a = part_is d (omega arith) in
    let b = part_is s (omega arith) in
    let four : unsigned_abs (pos 4 *ℤ d) ≤ 1344000000000000000 = omega (arith, ints) in
    let whole : unsigned_abs (pos 4 *ℤ d -ℤ s) ≤ 2630000000000000000 = omega (arith, ints) in
    let first = ap (λ z. to_z w64 (of_z w64 (pos 4 *ℤ z))) a ∙ part_is (pos 4 *ℤ d) (omega arith) in
    ap (λ z. to_z w64 (of_z w64 z)) (λ i. first i -ℤ b i) ∙ part_is (pos 4 *ℤ d -ℤ s) (omega arith)

gain_small : (d s : ℤ) → unsigned_abs d ≤ 336000000000000000 → unsigned_abs s ≤ 1280000000000000000
    → unsigned_abs (pos 4 *ℤ d -ℤ s) ≤ 2630000000000000000
gain_small d s small small_too = omega (arith, ints)

pub overflow_mul-result : goal.overflow_mul-result
overflow_mul-result c = let d = c.dot.ensures.bound in omega (arith, ints)

pub overflow_sub-result : goal.overflow_sub-result
overflow_sub-result c = let d = c.dot.ensures.bound in let s = c.size.ensures.bound in omega (arith, ints)

pub returns-clause-gain : goal.returns-clause-gain
returns-clause-gain c =
    gain_is c.dot.result c.size.result c.dot.ensures.bound c.size.ensures.bound
    ∙ (λ i. pos 4 *ℤ c.dot.ensures.dot i -ℤ c.size.ensures.size i)

pub returns-clause-bound : goal.returns-clause-bound
returns-clause-bound c =
    subst (λ z. unsigned_abs z ≤ 2630000000000000000)
    (sym (gain_is c.dot.result c.size.result c.dot.ensures.bound c.size.ensures.bound))
    (gain_small c.dot.result c.size.result c.dot.ensures.bound c.size.ensures.bound)
