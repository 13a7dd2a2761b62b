use Rattle.std.proofs.Common.{◌≡◌, ◌≤ℤ◌, ◌^◌, pos, ℤ, ◌-ℤ◌, ◌*ℤ◌, to_z, of_z, w64, sym, subst, ◌∙◌, arith}
use Rattle.std.proofs.lemmas.Int.{ints}
use Rattle.tone_carrier.specs.HeardWindows.{power, sum_of}
use Rattle.tone_carrier.proofs.NumberLemmas.{passed}
use Rattle.tone_carrier.proofs.PowerLemmas.{power_least, power_most}
use Rattle.tone_carrier.proofs.window_power.power.Goals as goal

-- the difference as it is given back
difference_is : (q s : ℤ) → pos 0 ≤ℤ q → q ≤ℤ pos (2 ^ 33) → pos 0 ≤ℤ s → s ≤ℤ pos (2 ^ 36)
    → to_z w64 (of_z w64 (to_z w64 (of_z w64 (pos 64 *ℤ to_z w64 (of_z w64 q)))
    -ℤ to_z w64 (of_z w64 (pos 7 *ℤ to_z w64 (of_z w64 s)))))
    ≡ pos 64 *ℤ q -ℤ pos 7 *ℤ s
difference_is q s a b d e = omega (arith, ints)

pub returns-clause-power : goal.returns-clause-power
unfolding power
returns-clause-power c =
    let sum : to_z w64 (of_z w64 c.sum_of-sum.result) ≡ sum_of c.args.window.now
    = passed c.sum_of-sum.result (let bound = c.sum_of-sum.ensures.bound in omega arith) ∙ c.sum_of-sum.ensures.sum in
    let squares = c.square_sum_of.ensures in
    let square = c.square.ensures in
    difference_is c.square_sum_of.result c.square.result squares.least squares.most square.least square.most
    ∙ (λ i. pos 64 *ℤ squares.sum i -ℤ pos 7 *ℤ (square.value ∙ (λ j. sum j *ℤ sum j)) i)

pub returns-clause-least : goal.returns-clause-least
returns-clause-least c =
    let squares = c.square_sum_of.ensures in
    let large = subst (λ z. z ≤ℤ pos (2 ^ 33)) squares.sum squares.most in
    subst (λ z. pos 0 ≤ℤ z) (sym (returns-clause-power c)) (power_least c.args.window.now large)

pub returns-clause-most : goal.returns-clause-most
returns-clause-most c =
    let squares = c.square_sum_of.ensures in
    let large = subst (λ z. z ≤ℤ pos (2 ^ 33)) squares.sum squares.most in
    subst (λ z. z ≤ℤ pos (2 ^ 39)) (sym (returns-clause-power c)) (power_most c.args.window.now large)
