-- Products of parts as they are passed and given back.
use Rattle.hf_tracking.proofs.Common.{◌≡◌, ◌≤◌, ◌+◌, ◌*◌, ℕ, ℤ, ◌+ℤ◌, ◌-ℤ◌, ◌*ℤ◌, unsigned_abs, FitsSigned, to_z, of_z, w64, ap, subst, sym}
use Rattle.hf_tracking.proofs.Common.{◌∙◌, arith, ints, to_z-of_z, int_max}
use Rattle.std.proofs.lemmas.Int.{clamps}
use Rattle.std.proofs.lemmas.Int.{unsigned_abs-mul}
use Rattle.std.proofs.Math.Nat.{mul-le-mul_right, mul-le-mul_left}

-- the product of two parts that are not above bounds
pub product_size : (m n : ℕ) (x y : ℤ) → unsigned_abs x ≤ m → unsigned_abs y ≤ n → unsigned_abs (x *ℤ y) ≤ m * n
product_size m n x y first second =
    let one : unsigned_abs x * unsigned_abs y ≤ m * unsigned_abs y = mul-le-mul_right (unsigned_abs y) first in
    let two : m * unsigned_abs y ≤ m * n = mul-le-mul_left m second in
    omega (arith, unsigned_abs-mul x y)

pub product_is : (m n : ℕ) (x y : ℤ) → unsigned_abs x ≤ m → unsigned_abs y ≤ n → m ≤ 2000000000 → n ≤ 2000000000
    → m * n ≤ 4000000000000000000
    → to_z w64 (of_z w64 (to_z w64 (of_z w64 x) *ℤ to_z w64 (of_z w64 y))) ≡ x *ℤ y
product_is m n x y first second small small_too whole =
    let fits_x : FitsSigned w64 x = omega (arith, ints) in
    let fits_y : FitsSigned w64 y = omega (arith, ints) in
    let bound : unsigned_abs (x *ℤ y) ≤ m * n = product_size m n x y first second in
    let fits : FitsSigned w64 (x *ℤ y) = omega (arith, ints) in
    simp to_z-of_z

-- ---- sums

-- a number as it is passed
pub part_is : (z : ℤ) → unsigned_abs z ≤ 9000000000000000000 → to_z w64 (of_z w64 z) ≡ z
part_is z small =
    let fits : FitsSigned w64 z = omega (arith, ints) in
    to_z-of_z w64 z fits

-- the larger of two numbers as they are passed
pub larger_is : (m s r : ℤ) → unsigned_abs m ≤ 9000000000000000000 → unsigned_abs s ≤ 9000000000000000000
    → r ≡ int_max (to_z w64 (of_z w64 m)) (to_z w64 (of_z w64 s)) → r ≡ int_max m s
larger_is m s r small small_too is =
    let a = part_is m small in
    let b = part_is s small_too in
    is ∙ (λ i. int_max (a i) (b i))

pub larger_small : (most : ℕ) (m s r : ℤ) → unsigned_abs m ≤ most → unsigned_abs s ≤ most → r ≡ int_max m s
    → unsigned_abs r ≤ most
larger_small most m s r small small_too is =
    let bound : unsigned_abs (int_max m s) ≤ most = omega (arith, ints, clamps) in
    subst (λ z. unsigned_abs z ≤ most) (sym is) bound

-- a sum of two numbers as they are passed and given back
pub sum_is : (g r : ℤ) → unsigned_abs g ≤ 3000000000000000000 → unsigned_abs r ≤ 6000000000000000000
    → to_z w64 (of_z w64 (to_z w64 (of_z w64 g) +ℤ to_z w64 (of_z w64 r))) ≡ g +ℤ r
sum_is g r small small_too =
    let a = part_is g (omega arith) in
    let b = part_is r (omega arith) in
    let whole : unsigned_abs (g +ℤ r) ≤ 9000000000000000000 = omega (arith, ints) in
    ap (λ z. to_z w64 (of_z w64 z)) (λ i. a i +ℤ b i) ∙ part_is (g +ℤ r) whole

pub sum_small : (m n : ℕ) (g r : ℤ) → unsigned_abs g ≤ m → unsigned_abs r ≤ n → unsigned_abs (g +ℤ r) ≤ m + n
sum_small m n g r small small_too = omega (arith, ints)

pub sum_fits : (g r : ℤ) → unsigned_abs g ≤ 3000000000000000000 → unsigned_abs r ≤ 6000000000000000000
    → FitsSigned w64 (to_z w64 (of_z w64 g) +ℤ to_z w64 (of_z w64 r))
sum_fits g r small small_too =
    let a = part_is g (omega arith) in
    let b = part_is r (omega arith) in
    let fits : FitsSigned w64 (g +ℤ r) = omega (arith, ints) in
    subst (FitsSigned w64) (λ i. sym a i +ℤ sym b i) fits

-- a difference
pub less_is : (g r : ℤ) → unsigned_abs g ≤ 3000000000000000000 → unsigned_abs r ≤ 3000000000000000000
    → to_z w64 (of_z w64 (to_z w64 (of_z w64 g) -ℤ to_z w64 (of_z w64 r))) ≡ g -ℤ r
less_is g r small small_too =
    let a = part_is g (omega arith) in
    let b = part_is r (omega arith) in
    let whole : unsigned_abs (g -ℤ r) ≤ 9000000000000000000 = omega (arith, ints) in
    ap (λ z. to_z w64 (of_z w64 z)) (λ i. a i -ℤ b i) ∙ part_is (g -ℤ r) whole

pub less_fits : (g r : ℤ) → unsigned_abs g ≤ 3000000000000000000 → unsigned_abs r ≤ 3000000000000000000
    → FitsSigned w64 (to_z w64 (of_z w64 g) -ℤ to_z w64 (of_z w64 r))
less_fits g r small small_too =
    let a = part_is g (omega arith) in
    let b = part_is r (omega arith) in
    let fits : FitsSigned w64 (g -ℤ r) = omega (arith, ints) in
    subst (FitsSigned w64) (λ i. sym a i -ℤ sym b i) fits

pub less_small : (m n : ℕ) (g r : ℤ) → unsigned_abs g ≤ m → unsigned_abs r ≤ n → unsigned_abs (g -ℤ r) ≤ m + n
less_small m n g r small small_too = omega (arith, ints)

-- a sum of three
module _ (l m n : ℕ) (x y z : ℤ) (few : l + m + n ≤ 3000000000000000000) (a : unsigned_abs x ≤ l) (b : unsigned_abs y ≤ m)
    (c : unsigned_abs z ≤ n) where
  two : to_z w64 (of_z w64 (to_z w64 (of_z w64 x) +ℤ to_z w64 (of_z w64 y))) ≡ x +ℤ y
  two = sum_is x y (omega arith) (omega arith)

  third : to_z w64 (of_z w64 z) ≡ z
  third = part_is z (omega arith)

  pub three_small : unsigned_abs ((x +ℤ y) +ℤ z) ≤ l + m + n
  three_small = omega (arith, ints)

  pub three_fits : FitsSigned w64 (to_z w64 (of_z w64 (to_z w64 (of_z w64 x) +ℤ to_z w64 (of_z w64 y))) +ℤ to_z w64 (of_z w64 z))
  three_fits =
      let small = three_small in
      let fits : FitsSigned w64 ((x +ℤ y) +ℤ z) = omega (arith, ints) in
      subst (FitsSigned w64) (λ i. sym two i +ℤ sym third i) fits

  pub three_is : to_z w64 (of_z w64 (to_z w64 (of_z w64 (to_z w64 (of_z w64 x) +ℤ to_z w64 (of_z w64 y))) +ℤ to_z w64
      (of_z w64 z))) ≡ (x +ℤ y) +ℤ z
  three_is =
      let small = three_small in
      ap (λ t. to_z w64 (of_z w64 t)) (λ i. two i +ℤ third i) ∙ part_is ((x +ℤ y) +ℤ z) (omega arith)

-- the product of two parts as they are passed
pub passed_product : (x y p : ℤ) → unsigned_abs x ≤ 9000000000000000000 → unsigned_abs y ≤ 9000000000000000000
    → p ≡ to_z w64 (of_z w64 x) *ℤ to_z w64 (of_z w64 y) → p ≡ x *ℤ y
passed_product x y p small small_too is =
    let a = part_is x small in
    let b = part_is y small_too in
    is ∙ (λ i. a i *ℤ b i)
