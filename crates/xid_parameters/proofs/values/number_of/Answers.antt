-- At most four octets are a number of 32 bits.
use Rattle.std.proofs.Common.{arith, ◌<◌, ◌≤◌, ◌^◌, ℕ}
use Rattle.std.proofs.Math.Nat.{pow-le-pow_right}
use Rattle.xid_parameters.proofs.values.number_of.Goals as goal

-- a number of at most three octets
below : (number count : ℕ) → number < 256 ^ count → count < 4 → number < 16777216
below number count fits few =
    let most : 256 ^ count ≤ 16777216 = pow-le-pow_right {n = 256} (omega arith) {i = count} {j = 3} (omega (arith, few)) in
    omega (arith, fits, most)

pub overflow_mul-number : goal.overflow_mul-number
overflow_mul-number c =
    let fits : c.loop-octet.number < 16777216 =
    below c.loop-octet.number c.loop-octet.octet-index c.loop-octet.invariant.1
    (omega (arith, c.loop-octet-test.true, c.requires)) in
    omega (arith, fits)
