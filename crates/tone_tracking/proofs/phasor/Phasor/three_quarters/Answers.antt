use Rattle.tone_tracking.proofs.Common.{◌≡◌, ◌≤◌, ◌/◌, ℤ, pos, negsuc, ◌*ℤ◌, FitsSigned, to_z, of_z, w64, unsigned_abs}
use Rattle.tone_tracking.proofs.Common.{ap, ◌∙◌, arith, ints, to_z-of_z}
use Rattle.std.specs.Int.{int_div_euclid}
use Rattle.std.specs.Int.Signed.{shr_z}
use Rattle.tone_tracking.proofs.PhasorLemmas.{phasor_is}
use Rattle.tone_tracking.proofs.phasor.Phasor.three_quarters.Goals as goal

-- a shift by two bits as it is given back
shifted : (z : ℤ) → unsigned_abs z ≤ 6000000000 → to_z w64 (of_z w64 (shr_z z 4)) ≡ int_div_euclid z (pos 4)
shifted (pos n) small =
    let fits : FitsSigned w64 (pos (n / 4)) = omega (arith, ints) in
    to_z-of_z w64 (pos (n / 4)) fits
shifted (negsuc n) small =
    let fits : FitsSigned w64 (negsuc (n / 4)) = omega (arith, ints) in
    to_z-of_z w64 (negsuc (n / 4)) fits

-- three times a part as it is passed
tripled : (z : ℤ) → unsigned_abs z ≤ 2000000000 → to_z w64 (of_z w64 (pos 3 *ℤ to_z w64 (of_z w64 z))) ≡ pos 3 *ℤ z
tripled z small = omega (arith, ints)

part_is : (z : ℤ) → unsigned_abs z ≤ 2000000000
    → to_z w64 (of_z w64 (shr_z (to_z w64 (of_z w64 (pos 3 *ℤ to_z w64 (of_z w64 z)))) 4))
    ≡ int_div_euclid (pos 3 *ℤ z) (pos 4)
part_is z small =
    let tripled_small : unsigned_abs (pos 3 *ℤ z) ≤ 6000000000 = omega (arith, ints) in
    ap (λ t. to_z w64 (of_z w64 (shr_z t 4))) (tripled z small) ∙ shifted (pos 3 *ℤ z) tripled_small

pub returns : goal.returns
returns c = phasor_is _ _ (part_is c.args.self.a c.requires.first) (part_is c.args.self.b c.requires.second)
