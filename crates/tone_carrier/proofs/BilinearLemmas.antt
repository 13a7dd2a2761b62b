-- The product of two windows, turned, is the least at an edge: if each of the four sums of two windows lies between two
-- bounds, it is at least the least of the sixteen products of bounds.
use Rattle.std.proofs.Common.{◌≡◌, ℕ, ℤ, pos, negsuc, ◌+ℤ◌, ◌-ℤ◌, ◌*ℤ◌, ◌≤ℤ◌, Bool, true, false, ap, sym, ◌∙◌, arith}
use Rattle.std.specs.Prelude.{◌&&◌, int_le}
use Rattle.std.proofs.lemmas.Bool.{and_parts}
use Rattle.std.proofs.lemmas.Int.{ints}
use Rattle.std.proofs.Math.IntN.{*ℤ_comm, zero-*ℤ, pos-*ℤ-pos}
use Rattle.offset_slicers.proofs.IntegerLemmas.{mul-add_right, mul-sub_left, mul-assoc}

-- ---- products

not_negative : (a b : ℤ) → pos 0 ≤ℤ a → pos 0 ≤ℤ b → pos 0 ≤ℤ (a *ℤ b)
not_negative (pos m) (pos n) a b = omega (arith, ints, pos-*ℤ-pos m n)
not_negative (negsuc m) (pos n) a b = absurd (omega (arith, ints))
not_negative a (negsuc n) p b = absurd (omega (arith, ints))

mul_up : (a b c : ℤ) → a ≤ℤ b → pos 0 ≤ℤ c → (a *ℤ c) ≤ℤ (b *ℤ c)
mul_up a b c le positive =
    let difference : pos 0 ≤ℤ (b -ℤ a) = omega (arith, ints) in
    omega (arith, ints, not_negative (b -ℤ a) c difference positive, mul-sub_left b a c)

mul_down : (a b c : ℤ) → a ≤ℤ b → c ≤ℤ pos 0 → (b *ℤ c) ≤ℤ (a *ℤ c)
mul_down a b c le negative =
    let difference : pos 0 ≤ℤ (b -ℤ a) = omega (arith, ints) in
    let below : pos 0 ≤ℤ (pos 0 -ℤ c) = omega (arith, ints) in
    omega (
      arith,
      ints,
      not_negative (pos 0 -ℤ c) (b -ℤ a) below difference,
      mul-sub_left (pos 0) c (b -ℤ a),
      zero-*ℤ (b -ℤ a),
      *ℤ_comm c (b -ℤ a),
      mul-sub_left b a c,
    )

mul-sub_right : (a b c : ℤ) → a *ℤ (b -ℤ c) ≡ a *ℤ b -ℤ a *ℤ c
mul-sub_right a b c = *ℤ_comm a (b -ℤ c) ∙ mul-sub_left b c a ∙ (λ i. *ℤ_comm b a i -ℤ *ℤ_comm c a i)

-- a factor in front
pull : (k x y : ℤ) → x *ℤ (k *ℤ y) ≡ k *ℤ (x *ℤ y)
pull k x y = *ℤ_comm x (k *ℤ y) ∙ mul-assoc k y x ∙ ap (λ z. k *ℤ z) (*ℤ_comm y x)

-- ---- the product of two windows

-- the sums of both, in the two parts: in phase, and a quarter of a turn off
abbrev pub product_of_sums : ℤ → ℤ → ℤ → ℤ → ℤ → ℤ → ℤ
product_of_sums k l x y z w = k *ℤ (x *ℤ z +ℤ y *ℤ w) +ℤ l *ℤ (y *ℤ z -ℤ x *ℤ w)

by_first : (k l x y z w : ℤ)
    → product_of_sums k l x y z w ≡ x *ℤ (k *ℤ z -ℤ l *ℤ w) +ℤ y *ℤ (k *ℤ w +ℤ l *ℤ z)
by_first k l x y z w =
    omega (
      arith,
      ints,
      mul-add_right k (x *ℤ z) (y *ℤ w),
      mul-sub_right l (y *ℤ z) (x *ℤ w),
      mul-sub_right x (k *ℤ z) (l *ℤ w),
      mul-add_right y (k *ℤ w) (l *ℤ z),
      pull k x z,
      pull l x w,
      pull k y w,
      pull l y z,
    )

by_second : (k l x y z w : ℤ)
    → product_of_sums k l x y z w ≡ z *ℤ (k *ℤ x +ℤ l *ℤ y) +ℤ w *ℤ (k *ℤ y -ℤ l *ℤ x)
by_second k l x y z w =
    omega (
      arith,
      ints,
      mul-add_right k (x *ℤ z) (y *ℤ w),
      mul-sub_right l (y *ℤ z) (x *ℤ w),
      mul-add_right z (k *ℤ x) (l *ℤ y),
      mul-sub_right w (k *ℤ y) (l *ℤ x),
      pull k z x ∙ ap (λ p. k *ℤ p) (*ℤ_comm z x),
      pull l z y ∙ ap (λ p. l *ℤ p) (*ℤ_comm z y),
      pull k w y ∙ ap (λ p. k *ℤ p) (*ℤ_comm w y),
      pull l w x ∙ ap (λ p. l *ℤ p) (*ℤ_comm w x),
    )

-- all four sums, a number of times as large
pub scaled : (k l n x y z w : ℤ)
    → product_of_sums k l (n *ℤ x) (n *ℤ y) (n *ℤ z) (n *ℤ w) ≡ n *ℤ (n *ℤ product_of_sums k l x y z w)
scaled k l n x y z w =
    let c : ℤ = k *ℤ (n *ℤ z) -ℤ l *ℤ (n *ℤ w) in
    let d : ℤ = k *ℤ (n *ℤ w) +ℤ l *ℤ (n *ℤ z) in
    let e : ℤ = k *ℤ x +ℤ l *ℤ y in
    let f : ℤ = k *ℤ y -ℤ l *ℤ x in
    let first : product_of_sums k l (n *ℤ x) (n *ℤ y) (n *ℤ z) (n *ℤ w)
    ≡ n *ℤ product_of_sums k l x y (n *ℤ z) (n *ℤ w)
    = by_first k l (n *ℤ x) (n *ℤ y) (n *ℤ z) (n *ℤ w)
    ∙ (λ i. mul-assoc n x c i +ℤ mul-assoc n y d i)
    ∙ sym (mul-add_right n (x *ℤ c) (y *ℤ d))
    ∙ ap (λ p. n *ℤ p) (sym (by_first k l x y (n *ℤ z) (n *ℤ w))) in
    let second : product_of_sums k l x y (n *ℤ z) (n *ℤ w) ≡ n *ℤ product_of_sums k l x y z w
    = by_second k l x y (n *ℤ z) (n *ℤ w)
    ∙ (λ i. mul-assoc n z e i +ℤ mul-assoc n w f i)
    ∙ sym (mul-add_right n (z *ℤ e) (w *ℤ f))
    ∙ ap (λ p. n *ℤ p) (sym (by_second k l x y z w)) in
    first ∙ ap (λ p. n *ℤ p) second

-- ---- edges

-- a number lies between two others, times a level
pub record IsBetween (level : ℕ) (low high x : ℤ) : Type 0 where
  pub least : (pos level *ℤ low) ≤ℤ x
  pub most : x ≤ℤ (pos level *ℤ high)

abbrev pub edge : ℤ → ℤ → Bool → ℤ
edge low high true = high
edge low high false = low

-- a product with a number that lies between two is at least that with one of them
at_edge : (level : ℕ) (low high x c : ℤ) → IsBetween level low high x
    → (side : Bool) × (((pos level *ℤ edge low high side) *ℤ c) ≤ℤ (x *ℤ c))
at_edge level low high x (pos n) h = (false, mul_up (pos level *ℤ low) x (pos n) h.least (omega (arith, ints)))
at_edge level low high x (negsuc n) h = (true, mul_down x (pos level *ℤ high) (negsuc n) h.most (omega (arith, ints)))

abbrev pub both_sides : (Bool → Bool) → Bool
both_sides p = p false && p true

at_side : (p : Bool → Bool) → both_sides p ≡ true → (side : Bool) → p side ≡ true
at_side p both true = (and_parts _ _ both).1
at_side p both false = (and_parts _ _ both).0

int_le_true : (a b : ℤ) → int_le a b ≡ true → a ≤ℤ b
int_le_true a b holds = grind (arith, ints)

-- what is computed of the bounds: the product is at least a number at all edges
abbrev pub at_all_edges : ℤ → ℤ → ℤ → ℤ → ℤ → ℤ → ℤ → ℤ → ℤ → ℤ → ℤ → Bool
at_all_edges k l xl xh yl yh zl zh wl wh least =
    both_sides (λ a. both_sides (λ b. both_sides (λ c. both_sides (λ d.
    int_le least (product_of_sums k l (edge xl xh a) (edge yl yh b) (edge zl zh c) (edge wl wh d))))))

module _ (level : ℕ) (k l : ℤ) (xl xh yl yh zl zh wl wh : ℤ) where
  pub least_product : (x y z w least : ℤ) → IsBetween level xl xh x → IsBetween level yl yh y
      → IsBetween level zl zh z → IsBetween level wl wh w → at_all_edges k l xl xh yl yh zl zh wl wh least ≡ true
      → (pos level *ℤ (pos level *ℤ least)) ≤ℤ product_of_sums k l x y z w
  least_product x y z w least hx hy hz hw all =
      let n : ℤ = pos level in
      let c : ℤ = k *ℤ z -ℤ l *ℤ w in
      let d : ℤ = k *ℤ w +ℤ l *ℤ z in
      let a = at_edge level xl xh x c hx in
      let b = at_edge level yl yh y d hy in
      let u : ℤ = edge xl xh a.0 in
      let v : ℤ = edge yl yh b.0 in
      let e : ℤ = k *ℤ u +ℤ l *ℤ v in
      let f : ℤ = k *ℤ v -ℤ l *ℤ u in
      let g = at_edge level zl zh z e hz in
      let h = at_edge level wl wh w f hw in
      let p : ℤ = edge zl zh g.0 in
      let q : ℤ = edge wl wh h.0 in
      let vertex : least ≤ℤ product_of_sums k l u v p q
      = int_le_true least (product_of_sums k l u v p q)
      (at_side (λ s4. int_le least (product_of_sums k l u v p (edge wl wh s4)))
      (at_side (λ s3. both_sides (λ s4.
      int_le least (product_of_sums k l u v (edge zl zh s3) (edge wl wh s4))))
      (at_side (λ s2. both_sides (λ s3. both_sides (λ s4.
      int_le least (product_of_sums k l u (edge yl yh s2) (edge zl zh s3) (edge wl wh s4)))))
      (at_side (λ s1. both_sides (λ s2. both_sides (λ s3. both_sides (λ s4.
      int_le least (product_of_sums k l (edge xl xh s1) (edge yl yh s2) (edge zl zh s3) (edge wl wh s4))))))
      all a.0) b.0) g.0) h.0) in
      -- the first two at their edges
      let first : (n *ℤ product_of_sums k l u v z w) ≤ℤ product_of_sums k l x y z w
      = omega (
        arith,
        ints,
        by_first k l x y z w,
        ap (λ r. n *ℤ r) (by_first k l u v z w),
        mul-add_right n (u *ℤ c) (v *ℤ d),
        mul-assoc n u c,
        mul-assoc n v d,
        a.1,
        b.1,
      ) in
      -- and the other two
      let second : (n *ℤ product_of_sums k l u v p q) ≤ℤ product_of_sums k l u v z w
      = omega (
        arith,
        ints,
        by_second k l u v z w,
        ap (λ r. n *ℤ r) (by_second k l u v p q),
        mul-add_right n (p *ℤ e) (q *ℤ f),
        mul-assoc n p e,
        mul-assoc n q f,
        g.1,
        h.1,
      ) in
      let positive : pos 0 ≤ℤ n = omega (arith, ints) in
      let up : (r s : ℤ) → r ≤ℤ s → (n *ℤ r) ≤ℤ (n *ℤ s)
      = (λ r s le. omega (arith, ints, mul_up r s n le positive, *ℤ_comm r n, *ℤ_comm s n)) in
      let third = up (n *ℤ product_of_sums k l u v p q) (product_of_sums k l u v z w) second in
      let fourth = up (n *ℤ least) (n *ℤ product_of_sums k l u v p q)
      (up least (product_of_sums k l u v p q) vertex) in
      omega (arith, ints, first, third, fourth)
