use Rattle.tone_tracking.proofs.Common.{◌-ℤ◌, FitsSigned, w32, ◌∙◌, ap, arith, rules, int_max, ints, to_z-of_z}
use Rattle.std.specs.Prelude.{pos}
use Rattle.std.specs.Int.{int_min}
use Rattle.tone_tracking.proofs.bit_clock.rate_pulled.Goals as goal

pub returns-clause-rate : goal.returns-clause-rate
returns-clause-rate c =
    let bound = c.rate_correction.ensures.bound in
    let large = c.requires.rate in
    let fits : FitsSigned w32 c.clamp.result = search rules in
    let fits_correction : FitsSigned w32 c.rate_correction.result = search rules in
    let fits_rate : FitsSigned w32 c.args.rate = c.ranges.rate in
    let fits_phase : FitsSigned w32 c.args.phase = c.ranges.phase in
    let fits_all : FitsSigned w32 (c.args.rate -ℤ c.rate_correction.result) = omega (arith, ints) in
    let value = simp to_z-of_z at c.clamp.ensures.value in
    let correction = simp to_z-of_z at c.rate_correction.ensures.correction in
    to_z-of_z w32 c.clamp.result fits ∙ value ∙ ap (λ z. int_max (pos 124928) (int_min (c.args.rate -ℤ z) (pos 137216)))
    correction
