-- Vectors of a known length as their lanes, and sums and products in a lane.
use Rattle.offset_slicers.proofs.Common.{◌≡◌, ◌≤◌, ◌<◌, ◌+◌, ◌+ℤ◌, ◌*ℤ◌, ℕ, ℤ, pos, List, ◌∷◌, length, map, get_or, refl}
use Rattle.offset_slicers.proofs.Common.{arith, to_z, of_z, FitsSigned, unsigned_abs, zero, suc, ints, to_z-of_z, ◌*◌}
use Rattle.offset_slicers.proofs.Common.{w16, take, drop}
use Rattle.std.proofs.Common.{[], w32}
use Rattle.std.specs.List.{All, sum_by}
use Rattle.offset_slicers.specs.PairSums.{AreLight, AreSmall, product_pair}
use Rattle.offset_slicers.proofs.DecisionLemmas.{unsigned_abs-product}

pub four_items : (xs : List ℤ) → length xs ≡ 4
    → xs ≡ get_or xs 0 (pos 0) ∷ get_or xs 1 (pos 0) ∷ get_or xs 2 (pos 0) ∷ get_or xs 3 (pos 0) ∷ []
four_items (a ∷ b ∷ c ∷ d ∷ []) h = refl
four_items [] h = absurd (omega arith)
four_items (a ∷ []) h = absurd (omega arith)
four_items (a ∷ b ∷ []) h = absurd (omega arith)
four_items (a ∷ b ∷ c ∷ []) h = absurd (omega arith)
four_items (a ∷ b ∷ c ∷ d ∷ e ∷ xs) h = absurd (omega arith)

pub eight_items : (xs : List ℤ) → length xs ≡ 8
    → xs ≡ get_or xs 0 (pos 0) ∷ get_or xs 1 (pos 0) ∷ get_or xs 2 (pos 0) ∷ get_or xs 3 (pos 0)
    ∷ get_or xs 4 (pos 0) ∷ get_or xs 5 (pos 0) ∷ get_or xs 6 (pos 0) ∷ get_or xs 7 (pos 0) ∷ []
eight_items (a ∷ b ∷ c ∷ d ∷ e ∷ f ∷ g ∷ k ∷ []) h = refl
eight_items [] h = absurd (omega arith)
eight_items (a ∷ []) h = absurd (omega arith)
eight_items (a ∷ b ∷ []) h = absurd (omega arith)
eight_items (a ∷ b ∷ c ∷ []) h = absurd (omega arith)
eight_items (a ∷ b ∷ c ∷ d ∷ []) h = absurd (omega arith)
eight_items (a ∷ b ∷ c ∷ d ∷ e ∷ []) h = absurd (omega arith)
eight_items (a ∷ b ∷ c ∷ d ∷ e ∷ f ∷ []) h = absurd (omega arith)
eight_items (a ∷ b ∷ c ∷ d ∷ e ∷ f ∷ g ∷ []) h = absurd (omega arith)
eight_items (a ∷ b ∷ c ∷ d ∷ e ∷ f ∷ g ∷ k ∷ i ∷ xs) h = absurd (omega arith)

-- ---- a lane as it is passed

abbrev pub lane : ℤ → ℤ
lane z = to_z w32 (of_z w32 z)

pub lane_is : (z : ℤ) → unsigned_abs z ≤ 2147483647 → lane z ≡ z
lane_is z small =
    let fits : FitsSigned w32 z = omega (arith, ints) in
    to_z-of_z w32 z fits

pub passed : (xs : List ℤ) → All (λ x. unsigned_abs x ≤ 2147483647) xs → map (to_z w32) (map (of_z w32) xs) ≡ xs
passed [] small = refl
passed (x ∷ xs) small =
    let first : lane x ≡ x = lane_is x (small 0 (pos 0) (omega arith)) in
    let rest : map (to_z w32) (map (of_z w32) xs) ≡ xs = passed xs (λ k d below. small (suc k) d (omega arith)) in
    λ i. first i ∷ rest i

pub passed_below : (most : ℕ) → most ≤ 2147483647 → (xs : List ℤ) → All (λ x. unsigned_abs x ≤ most) xs
    → map (to_z w32) (map (of_z w32) xs) ≡ xs
passed_below most below xs small = passed xs (λ k d inside. omega (arith, small k d inside))

-- a number of sixteen bits made one of 32
pub widened : (z : ℤ) → FitsSigned w16 z → to_z w32 (of_z w32 (to_z w16 (of_z w16 z))) ≡ z
widened z fits =
    let small : unsigned_abs z ≤ 2147483647 = omega (arith, ints) in
    let is : to_z w16 (of_z w16 z) ≡ z = to_z-of_z w16 z fits in
    rw is (lane_is z small)

-- ---- a sum of two lanes

pub sum_fits : (x y : ℤ) → unsigned_abs x ≤ 1050000000 → unsigned_abs y ≤ 1050000000
    → FitsSigned w32 (lane x +ℤ lane y)
sum_fits x y first second =
    let x_is : lane x ≡ x = lane_is x (omega arith) in
    let y_is : lane y ≡ y = lane_is y (omega arith) in
    rw (x_is, y_is) (omega (arith, ints))

pub sum_is : (x y : ℤ) → unsigned_abs x ≤ 1050000000 → unsigned_abs y ≤ 1050000000
    → lane (lane x +ℤ lane y) ≡ x +ℤ y
sum_is x y first second =
    let x_is : lane x ≡ x = lane_is x (omega arith) in
    let y_is : lane y ≡ y = lane_is y (omega arith) in
    let bound : unsigned_abs (x +ℤ y) ≤ 2147483647 = omega (arith, ints) in
    rw (x_is, y_is) (lane_is (x +ℤ y) bound)

-- ---- a product of two lanes, and a sum of two products

abbrev pub product : ℤ → ℤ → ℤ
product x w = lane x *ℤ lane w

product_is : (x w : ℤ) → unsigned_abs x ≤ 32768 → unsigned_abs w ≤ 10000 → product x w ≡ x *ℤ w
product_is x w sample weight =
    let x_is : lane x ≡ x = lane_is x (omega arith) in
    let w_is : lane w ≡ w = lane_is w (omega arith) in
    λ i. x_is i *ℤ w_is i

product_small : (x w : ℤ) → unsigned_abs x ≤ 32768 → unsigned_abs w ≤ 10000 → unsigned_abs (x *ℤ w) ≤ 327680000
product_small x w sample weight = omega (arith, unsigned_abs-product x w sample)

pub product_fits : (x w : ℤ) → unsigned_abs x ≤ 32768 → unsigned_abs w ≤ 10000 → FitsSigned w32 (product x w)
product_fits x w sample weight =
    let bound = product_small x w sample weight in
    rw (product_is x w sample weight) (omega (arith, ints))

module _ (x w y v : ℤ) (x_small : unsigned_abs x ≤ 32768) (w_small : unsigned_abs w ≤ 10000)
    (y_small : unsigned_abs y ≤ 32768) (v_small : unsigned_abs v ≤ 10000) where
  pub pair_fits : FitsSigned w32 (lane (product x w) +ℤ lane (product y v))
  pair_fits =
      let first = product_small x w x_small w_small in
      let second = product_small y v y_small v_small in
      rw (product_is x w x_small w_small, product_is y v y_small v_small)
      (sum_fits (x *ℤ w) (y *ℤ v) (omega (arith, first)) (omega (arith, second)))

  pub pair_is : lane (lane (product x w) +ℤ lane (product y v)) ≡ x *ℤ w +ℤ y *ℤ v
  pair_is =
      let first = product_small x w x_small w_small in
      let second = product_small y v y_small v_small in
      rw (product_is x w x_small w_small, product_is y v y_small v_small)
      (sum_is (x *ℤ w) (y *ℤ v) (omega (arith, first)) (omega (arith, second)))

  pub pair_small : unsigned_abs (x *ℤ w +ℤ y *ℤ v) ≤ 655360000
  pair_small =
      let first = product_small x w x_small w_small in
      let second = product_small y v y_small v_small in
      omega (arith, ints, first, second)

-- ---- eight lanes of a size, and four

pub all_eight : (most : ℕ) (a b c d e f g h : ℤ) → unsigned_abs a ≤ most → unsigned_abs b ≤ most
    → unsigned_abs c ≤ most → unsigned_abs d ≤ most → unsigned_abs e ≤ most → unsigned_abs f ≤ most
    → unsigned_abs g ≤ most → unsigned_abs h ≤ most
    → All (λ z. unsigned_abs z ≤ most) (a ∷ b ∷ c ∷ d ∷ e ∷ f ∷ g ∷ h ∷ [])
all_eight most a b c d e f g h one two three four five six seven eight zero x below = one
all_eight most a b c d e f g h one two three four five six seven eight (suc zero) x below = two
all_eight most a b c d e f g h one two three four five six seven eight (suc (suc zero)) x below = three
all_eight most a b c d e f g h one two three four five six seven eight (suc (suc (suc zero))) x below = four
all_eight most a b c d e f g h one two three four five six seven eight (suc (suc (suc (suc zero)))) x below = five
all_eight most a b c d e f g h one two three four five six seven eight (suc (suc (suc (suc (suc zero))))) x below = six
all_eight most a b c d e f g h one two three four five six seven eight (suc (suc (suc (suc (suc (suc zero)))))) x below =
    seven
all_eight most a b c d e f g h one two three four five six seven eight (suc (suc (suc (suc (suc (suc (suc zero))))))) x
    below = eight
all_eight most a b c d e f g h one two three four five six seven eight
    (suc (suc (suc (suc (suc (suc (suc (suc n)))))))) x below = absurd (omega arith)

all_four : (most : ℕ) (a b c d : ℤ) → unsigned_abs a ≤ most → unsigned_abs b ≤ most → unsigned_abs c ≤ most
    → unsigned_abs d ≤ most → All (λ z. unsigned_abs z ≤ most) (a ∷ b ∷ c ∷ d ∷ [])
all_four most a b c d one two three four zero e below = one
all_four most a b c d one two three four (suc zero) e below = two
all_four most a b c d one two three four (suc (suc zero)) e below = three
all_four most a b c d one two three four (suc (suc (suc zero))) e below = four
all_four most a b c d one two three four (suc (suc (suc (suc n)))) e below = absurd (omega arith)

pub four_small : (most : ℕ) (a b c d : ℤ) → unsigned_abs a ≤ most → unsigned_abs b ≤ most → unsigned_abs c ≤ most
    → unsigned_abs d ≤ most → AreSmall most (a ∷ b ∷ c ∷ d ∷ [])
four_small most a b c d one two three four = record { four = refl; small = all_four most a b c d one two three four }

-- a lane of small ones
pub lane_small : (most : ℕ) (xs : List ℤ) → AreSmall most xs → (k : ℕ) → k < 4
    → unsigned_abs (get_or xs k (pos 0)) ≤ most
lane_small most xs are k below = are.small k (pos 0) (omega (arith, are.four))

pub smaller : (least most : ℕ) → least ≤ most → (xs : List ℤ) → AreSmall least xs → AreSmall most xs
smaller least most le xs are =
    record { four = are.four; small = λ k d below. omega (arith, are.small k d below) }

-- ---- light weights

-- the products of small samples with four weights
four_products : (x y z u a b c d : ℤ) → unsigned_abs x ≤ 32768 → unsigned_abs y ≤ 32768 → unsigned_abs z ≤ 32768
    → unsigned_abs u ≤ 32768
    → unsigned_abs a + unsigned_abs b + unsigned_abs c + unsigned_abs d ≤ 32000
    → unsigned_abs ((x *ℤ a +ℤ y *ℤ b) +ℤ (z *ℤ c +ℤ u *ℤ d)) ≤ 1050000000
four_products x y z u a b c d one two three four light =
    let p : ℤ = x *ℤ a in
    let q : ℤ = y *ℤ b in
    let r : ℤ = z *ℤ c in
    let s : ℤ = u *ℤ d in
    added p q r s (unsigned_abs a) (unsigned_abs b) (unsigned_abs c) (unsigned_abs d)
    (unsigned_abs-product x a one) (unsigned_abs-product y b two)
    (unsigned_abs-product z c three) (unsigned_abs-product u d four) light
  where
    added : (p q r s : ℤ) (k l m n : ℕ) → unsigned_abs p ≤ 32768 * k → unsigned_abs q ≤ 32768 * l
        → unsigned_abs r ≤ 32768 * m → unsigned_abs s ≤ 32768 * n → k + l + m + n ≤ 32000
        → unsigned_abs ((p +ℤ q) +ℤ (r +ℤ s)) ≤ 1050000000
    added p q r s k l m n one two three four light = omega (arith, ints)

module _ (samples weights : List ℤ) (wide : length weights ≡ 8)
    (small : (k : ℕ) → k < 8 → unsigned_abs (get_or samples k (pos 0)) ≤ 32768) (light : AreLight weights) where
  abbrev size : ℕ → ℕ
  size k = unsigned_abs (get_or weights k (pos 0))

  pub light_at : (k : ℕ) → k < 8 → unsigned_abs (get_or weights k (pos 0)) ≤ 10000
  light_at k below = light.each k (pos 0) (omega arith)

  front_light : (ws : List ℤ) → length ws ≡ 8 → sum_by unsigned_abs (take 4 ws) ≤ 32000
      → unsigned_abs (get_or ws 0 (pos 0)) + unsigned_abs (get_or ws 1 (pos 0)) + unsigned_abs (get_or ws 2 (pos 0))
      + unsigned_abs (get_or ws 3 (pos 0)) ≤ 32000
  front_light (a ∷ b ∷ c ∷ d ∷ rest) long sum = omega arith
  front_light [] long sum = absurd (omega arith)
  front_light (a ∷ []) long sum = absurd (omega arith)
  front_light (a ∷ b ∷ []) long sum = absurd (omega arith)
  front_light (a ∷ b ∷ c ∷ []) long sum = absurd (omega arith)

  back_light : (ws : List ℤ) → length ws ≡ 8 → sum_by unsigned_abs (drop 4 ws) ≤ 32000
      → unsigned_abs (get_or ws 4 (pos 0)) + unsigned_abs (get_or ws 5 (pos 0)) + unsigned_abs (get_or ws 6 (pos 0))
      + unsigned_abs (get_or ws 7 (pos 0)) ≤ 32000
  back_light (a ∷ b ∷ c ∷ d ∷ e ∷ f ∷ g ∷ h ∷ []) long sum = omega arith
  back_light [] long sum = absurd (omega arith)
  back_light (a ∷ []) long sum = absurd (omega arith)
  back_light (a ∷ b ∷ []) long sum = absurd (omega arith)
  back_light (a ∷ b ∷ c ∷ []) long sum = absurd (omega arith)
  back_light (a ∷ b ∷ c ∷ d ∷ []) long sum = absurd (omega arith)
  back_light (a ∷ b ∷ c ∷ d ∷ e ∷ []) long sum = absurd (omega arith)
  back_light (a ∷ b ∷ c ∷ d ∷ e ∷ f ∷ []) long sum = absurd (omega arith)
  back_light (a ∷ b ∷ c ∷ d ∷ e ∷ f ∷ g ∷ []) long sum = absurd (omega arith)
  back_light (a ∷ b ∷ c ∷ d ∷ e ∷ f ∷ g ∷ h ∷ i ∷ rest) long sum = absurd (omega arith)

  pub front_small : unsigned_abs (product_pair samples weights 0 +ℤ product_pair samples weights 2) ≤ 1050000000
  front_small =
      four_products (get_or samples 0 (pos 0)) (get_or samples 1 (pos 0)) (get_or samples 2 (pos 0))
      (get_or samples 3 (pos 0)) (get_or weights 0 (pos 0)) (get_or weights 1 (pos 0)) (get_or weights 2 (pos 0))
      (get_or weights 3 (pos 0)) (small 0 (omega arith)) (small 1 (omega arith)) (small 2 (omega arith))
      (small 3 (omega arith)) (front_light weights wide light.front)

  pub back_small : unsigned_abs (product_pair samples weights 4 +ℤ product_pair samples weights 6) ≤ 1050000000
  back_small =
      four_products (get_or samples 4 (pos 0)) (get_or samples 5 (pos 0)) (get_or samples 6 (pos 0))
      (get_or samples 7 (pos 0)) (get_or weights 4 (pos 0)) (get_or weights 5 (pos 0)) (get_or weights 6 (pos 0))
      (get_or weights 7 (pos 0)) (small 4 (omega arith)) (small 5 (omega arith)) (small 6 (omega arith))
      (small 7 (omega arith)) (back_light weights wide light.back)
