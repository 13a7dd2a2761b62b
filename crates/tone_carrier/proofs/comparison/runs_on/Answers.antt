use Rattle.std.proofs.Common.{◌≡◌, ◌≤ℤ◌, ◌^◌, pos, ◌+ℤ◌, ◌*ℤ◌, ℤ, to_z, of_z, w64, ◌∙◌, arith}
use Rattle.std.specs.Prelude.{int_lt}
use Rattle.std.proofs.lemmas.Int.{ints}
use Rattle.tone_carrier.specs.RunsOn.{ahead}
use Rattle.tone_carrier.proofs.NumberLemmas.{passed}
use Rattle.tone_carrier.proofs.comparison.runs_on.Goals as goal

-- the power of both windows as it is passed
both_powers : (p q : ℤ) → pos 0 ≤ℤ p → p ≤ℤ pos (2 ^ 39) → pos 0 ≤ℤ q → q ≤ℤ pos (2 ^ 39)
    → to_z w64 (of_z w64 (pos 170 *ℤ to_z w64 (of_z w64 (to_z w64 (of_z w64 p) +ℤ to_z w64 (of_z w64 q)))))
    ≡ pos 170 *ℤ (p +ℤ q)
both_powers p q a b d e = omega (arith, ints)

pub returns : goal.returns
returns c =
    let before = c.args.before.now in
    let window = c.args.window.now in
    let left = both_powers before.power window.power c.requires.before.least c.requires.before.most
    c.requires.window.least c.requires.window.most in
    let right : to_z w64 (of_z w64 c.ahead.result) ≡ ahead before window
    = passed c.ahead.result (let bound = c.ahead.ensures.bound in omega arith) ∙ c.ahead.ensures.ahead in
    λ i. int_lt (left i) (right i)
