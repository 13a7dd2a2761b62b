-- Products and squares of integers.
use Rattle.std.proofs.Common.{◌≡◌, ℕ, ◌*◌, ◌≤◌, ◌^◌, ℤ, pos, negsuc, ◌+ℤ◌, ◌-ℤ◌, ◌*ℤ◌, ◌≤ℤ◌, unsigned_abs, FitsSigned}
use Rattle.std.proofs.Common.{to_z, of_z, w64, arith}
use Rattle.std.proofs.lemmas.Int.{ints, to_z-of_z, unsigned_abs-mul}
use Rattle.std.proofs.lemmas.Nat.{mul-le}
use Rattle.std.proofs.Math.IntN.{*ℤ_comm, pos-*ℤ-pos, negsuc-*ℤ-negsuc}
use Rattle.offset_slicers.proofs.IntegerLemmas.{mul-add_left, mul-add_right, mul-sub_left}

-- a number as it is passed and given back
pub passed : (z : ℤ) → unsigned_abs z ≤ 2 ^ 60 → to_z w64 (of_z w64 z) ≡ z
passed z small =
    let fits : FitsSigned w64 z = omega (arith, ints) in
    to_z-of_z w64 z fits

pub product_bound : (m n : ℕ) (a b : ℤ) → unsigned_abs a ≤ m → unsigned_abs b ≤ n → unsigned_abs (a *ℤ b) ≤ m * n
product_bound m n a b small large =
    omega (arith, unsigned_abs-mul a b, mul-le (unsigned_abs a) (unsigned_abs b) m n small large)

pub square_least : (z : ℤ) → pos 0 ≤ℤ (z *ℤ z)
square_least (pos n) = omega (arith, ints, pos-*ℤ-pos n n)
square_least (negsuc n) = omega (arith, ints, negsuc-*ℤ-negsuc n n)

-- the square of a sum is at most twice the sum of the squares, since the square of the difference is not negative
pub square_of_sum : (a b : ℤ) → ((a +ℤ b) *ℤ (a +ℤ b)) ≤ℤ (pos 2 *ℤ (a *ℤ a +ℤ b *ℤ b))
square_of_sum a b =
    omega (
      arith,
      ints,
      square_least (a -ℤ b),
      mul-add_left a b (a +ℤ b),
      mul-add_right a a b,
      mul-add_right b a b,
      mul-sub_left a b (a -ℤ b),
      *ℤ_comm a (a -ℤ b),
      mul-sub_left a b a,
      *ℤ_comm b (a -ℤ b),
      mul-sub_left a b b,
      *ℤ_comm b a,
    )
