use Rattle.tone_tracking.proofs.Common.{◌≡◌, ℕ, ◌≤◌, ℤ, pos, negsuc, ◌+ℤ◌, ◌-ℤ◌, ◌*ℤ◌, neg_ℤ, List, [], ◌∷◌, get_or}
use Rattle.tone_tracking.proofs.Common.{to_z, of_z, w32, w64, FitsSigned, unsigned_abs, refl, ap, ◌∙◌, arith, ints, to_z-of_z}
use Rattle.tone_tracking.proofs.Common.{Mark, sum_below, product_of, weight, correlation, IsWithin}
use Rattle.tone_table.specs.Sine.{quarter, half_wave, cycle_sample, wave_sample}
use Rattle.tone_tracking.proofs.CorrelationLemmas.{sum-product_at}
use Rattle.tone_tracking.proofs.correlation.correlate_mark.Goals as goal

-- ---- numbers as they are passed and given back

times : (k : ℕ) (z : ℤ) → FitsSigned w32 z → FitsSigned w32 (pos k *ℤ z)
    → to_z w32 (of_z w32 (pos k *ℤ to_z w32 (of_z w32 z))) ≡ pos k *ℤ z
times k z small large =
    ap (λ y. to_z w32 (of_z w32 (pos k *ℤ y))) (to_z-of_z w32 z small) ∙ to_z-of_z w32 (pos k *ℤ z) large

added : (x y p q : ℤ) → x ≡ p → y ≡ q → FitsSigned w32 (p +ℤ q) → to_z w32 (of_z w32 (x +ℤ y)) ≡ p +ℤ q
added x y p q first second fits =
    (λ i. to_z w32 (of_z w32 (first i +ℤ second i))) ∙ to_z-of_z w32 (p +ℤ q) fits

less : (x y p q : ℤ) → x ≡ p → y ≡ q → FitsSigned w32 (p -ℤ q) → to_z w32 (of_z w32 (x -ℤ y)) ≡ p -ℤ q
less x y p q first second fits =
    (λ i. to_z w32 (of_z w32 (first i -ℤ second i))) ∙ to_z-of_z w32 (p -ℤ q) fits

-- ---- both sums of four differences

module _ (p q r s : ℤ) (p_most : unsigned_abs p ≤ 524288) (q_most : unsigned_abs q ≤ 524288)
    (r_most : unsigned_abs r ≤ 524288) (s_most : unsigned_abs s ≤ 524288) where
  abbrev on : ℤ
  on = ((pos 87 *ℤ p +ℤ pos 97 *ℤ q) +ℤ pos 50 *ℤ r) -ℤ pos 26 *ℤ s

  abbrev at : ℤ
  at = (pos 71 *ℤ q +ℤ pos 100 *ℤ r) +ℤ pos 71 *ℤ s

  on_two : to_z w32 (of_z w32 (to_z w32 (of_z w32 (pos 87 *ℤ to_z w32 (of_z w32 p)))
      +ℤ to_z w32 (of_z w32 (pos 97 *ℤ to_z w32 (of_z w32 q))))) ≡ pos 87 *ℤ p +ℤ pos 97 *ℤ q
  on_two =
      added _ _ (pos 87 *ℤ p) (pos 97 *ℤ q) (times 87 p (omega (arith, ints)) (omega (arith, ints)))
      (times 97 q (omega (arith, ints)) (omega (arith, ints))) (omega (arith, ints))

  at_two : to_z w32 (of_z w32 (to_z w32 (of_z w32 (pos 71 *ℤ to_z w32 (of_z w32 q)))
      +ℤ to_z w32 (of_z w32 (pos 100 *ℤ to_z w32 (of_z w32 r))))) ≡ pos 71 *ℤ q +ℤ pos 100 *ℤ r
  at_two =
      added _ _ (pos 71 *ℤ q) (pos 100 *ℤ r) (times 71 q (omega (arith, ints)) (omega (arith, ints)))
      (times 100 r (omega (arith, ints)) (omega (arith, ints))) (omega (arith, ints))

  fifty : to_z w32 (of_z w32 (pos 50 *ℤ to_z w32 (of_z w32 r))) ≡ pos 50 *ℤ r
  fifty = times 50 r (omega (arith, ints)) (omega (arith, ints))

  twenty_six : to_z w32 (of_z w32 (pos 26 *ℤ to_z w32 (of_z w32 s))) ≡ pos 26 *ℤ s
  twenty_six = times 26 s (omega (arith, ints)) (omega (arith, ints))

  seventy_one : to_z w32 (of_z w32 (pos 71 *ℤ to_z w32 (of_z w32 s))) ≡ pos 71 *ℤ s
  seventy_one = times 71 s (omega (arith, ints)) (omega (arith, ints))

  on_three_fits : (x y : ℤ) → x ≡ pos 87 *ℤ p +ℤ pos 97 *ℤ q → y ≡ pos 50 *ℤ r → FitsSigned w32 (x +ℤ y)
  on_three_fits x y first second = omega (arith, ints)

  on_three : to_z w32 (of_z w32 (to_z w32 (of_z w32 (to_z w32 (of_z w32 (pos 87 *ℤ to_z w32 (of_z w32 p)))
      +ℤ to_z w32 (of_z w32 (pos 97 *ℤ to_z w32 (of_z w32 q))))) +ℤ to_z w32 (of_z w32 (pos 50 *ℤ to_z w32 (of_z w32 r)))))
      ≡ (pos 87 *ℤ p +ℤ pos 97 *ℤ q) +ℤ pos 50 *ℤ r
  on_three = added _ _ (pos 87 *ℤ p +ℤ pos 97 *ℤ q) (pos 50 *ℤ r) on_two fifty (omega (arith, ints))

  on_fits : (x y : ℤ) → x ≡ (pos 87 *ℤ p +ℤ pos 97 *ℤ q) +ℤ pos 50 *ℤ r → y ≡ pos 26 *ℤ s → FitsSigned w32 (x -ℤ y)
  on_fits x y first second = omega (arith, ints)

  at_fits : (x y : ℤ) → x ≡ pos 71 *ℤ q +ℤ pos 100 *ℤ r → y ≡ pos 71 *ℤ s → FitsSigned w32 (x +ℤ y)
  at_fits x y first second = omega (arith, ints)

  at_three : to_z w32 (of_z w32 (to_z w32 (of_z w32 (to_z w32 (of_z w32 (pos 71 *ℤ to_z w32 (of_z w32 q)))
      +ℤ to_z w32 (of_z w32 (pos 100 *ℤ to_z w32 (of_z w32 r))))) +ℤ to_z w32 (of_z w32 (pos 71 *ℤ to_z w32 (of_z w32 s)))))
      ≡ at
  at_three = added _ _ (pos 71 *ℤ q +ℤ pos 100 *ℤ r) (pos 71 *ℤ s) at_two seventy_one (omega (arith, ints))

  round_fits : (x : ℤ) → x ≡ at → FitsSigned w32 (pos 0 -ℤ x)
  round_fits x is = omega (arith, ints)

  -- what is given back
  on_given : (wide x y : ℤ) → x ≡ (pos 87 *ℤ p +ℤ pos 97 *ℤ q) +ℤ pos 50 *ℤ r → y ≡ pos 26 *ℤ s
      → wide ≡ to_z w32 (of_z w32 (x -ℤ y)) → to_z w64 (of_z w64 wide) ≡ on
  on_given wide x y first second is =
      let fits : FitsSigned w32 on = omega (arith, ints) in
      let same : wide ≡ on = is ∙ less x y _ (pos 26 *ℤ s) first second fits in
      omega (arith, ints)

  at_given : (wide x : ℤ) → x ≡ at → wide ≡ to_z w32 (of_z w32 (pos 0 -ℤ x)) → to_z w64 (of_z w64 wide) ≡ neg_ℤ at
  at_given wide x first is =
      let fits : FitsSigned w32 (pos 0 -ℤ at) = omega (arith, ints) in
      let same : wide ≡ pos 0 -ℤ at = is ∙ less (pos 0) x (pos 0) at refl first fits in
      omega (arith, ints)

  within : (x y : ℤ) → x ≡ on → y ≡ neg_ℤ at → IsWithin 297000000 (record { a = x; b = y })
  within x y first second =
      record { first = omega (arith, ints); second = omega (arith, ints); both = omega (arith, ints) }

-- ---- the weights turn round after four places

module _ (a b c d e f g h : ℤ) where
  on_is : (p q r s : ℤ) → p ≡ a -ℤ e → q ≡ b -ℤ f → r ≡ c -ℤ g → s ≡ d -ℤ h
      → ((pos 87 *ℤ p +ℤ pos 97 *ℤ q) +ℤ pos 50 *ℤ r) -ℤ pos 26 *ℤ s
      ≡ (((((((pos 0 +ℤ a *ℤ pos 87) +ℤ b *ℤ pos 97) +ℤ c *ℤ pos 50) +ℤ d *ℤ negsuc 25) +ℤ e *ℤ negsuc 86)
      +ℤ f *ℤ negsuc 96) +ℤ g *ℤ negsuc 49) +ℤ h *ℤ pos 26
  on_is p q r s p_is q_is r_is s_is = omega (arith, ints)

  at_is : (q r s : ℤ) → q ≡ b -ℤ f → r ≡ c -ℤ g → s ≡ d -ℤ h
      → (pos 71 *ℤ q +ℤ pos 100 *ℤ r) +ℤ pos 71 *ℤ s
      ≡ (((((((pos 0 +ℤ a *ℤ pos 0) +ℤ b *ℤ pos 71) +ℤ c *ℤ pos 100) +ℤ d *ℤ pos 71) +ℤ e *ℤ pos 0)
      +ℤ f *ℤ negsuc 70) +ℤ g *ℤ negsuc 99) +ℤ h *ℤ negsuc 70
  at_is q r s q_is r_is s_is = omega (arith, ints)

-- mark's weights a sixth of a turn on, and as they are
abbrev weights_on : List ℤ
weights_on = pos 87 ∷ pos 97 ∷ pos 50 ∷ negsuc 25 ∷ negsuc 86 ∷ negsuc 96 ∷ negsuc 49 ∷ pos 26 ∷ []

abbrev weights_at : List ℤ
weights_at = pos 0 ∷ pos 71 ∷ pos 100 ∷ pos 71 ∷ pos 0 ∷ negsuc 70 ∷ negsuc 99 ∷ negsuc 70 ∷ []

module _ (w : List ℤ) (p q r s : ℤ) (p_is : p ≡ get_or w 0 (pos 0) -ℤ get_or w 4 (pos 0))
    (q_is : q ≡ get_or w 1 (pos 0) -ℤ get_or w 5 (pos 0)) (r_is : r ≡ get_or w 2 (pos 0) -ℤ get_or w 6 (pos 0))
    (s_is : s ≡ get_or w 3 (pos 0) -ℤ get_or w 7 (pos 0)) where
  on_sum : ((pos 87 *ℤ p +ℤ pos 97 *ℤ q) +ℤ pos 50 *ℤ r) -ℤ pos 26 *ℤ s ≡ sum_below (product_of w weights_on) 8
  unfolding sum_below
  on_sum =
      on_is (get_or w 0 (pos 0)) (get_or w 1 (pos 0)) (get_or w 2 (pos 0)) (get_or w 3 (pos 0)) (get_or w 4 (pos 0))
      (get_or w 5 (pos 0)) (get_or w 6 (pos 0)) (get_or w 7 (pos 0)) p q r s p_is q_is r_is s_is

  at_sum : (pos 71 *ℤ q +ℤ pos 100 *ℤ r) +ℤ pos 71 *ℤ s ≡ sum_below (product_of w weights_at) 8
  unfolding sum_below
  at_sum =
      at_is (get_or w 0 (pos 0)) (get_or w 1 (pos 0)) (get_or w 2 (pos 0)) (get_or w 3 (pos 0)) (get_or w 4 (pos 0))
      (get_or w 5 (pos 0)) (get_or w 6 (pos 0)) (get_or w 7 (pos 0)) q r s q_is r_is s_is

-- ---- the goals

pub overflow_add-first-2 : goal.overflow_add-first-2
overflow_add-first-2 c =
    let p = c.difference-first in let q = c.difference-second in
    let r = c.difference-third in let s = c.difference-fourth in
    let p1 = p.ensures.bound in let q1 = q.ensures.bound in let r1 = r.ensures.bound in let s1 = s.ensures.bound in
    on_three_fits p.result q.result r.result s.result p1 q1 r1 s1 _ _
    (on_two p.result q.result r.result s.result p1 q1 r1 s1) (fifty p.result q.result r.result s.result p1 q1 r1 s1)

pub overflow_sub-first : goal.overflow_sub-first
overflow_sub-first c =
    let p = c.difference-first in let q = c.difference-second in
    let r = c.difference-third in let s = c.difference-fourth in
    let p1 = p.ensures.bound in let q1 = q.ensures.bound in let r1 = r.ensures.bound in let s1 = s.ensures.bound in
    on_fits p.result q.result r.result s.result p1 q1 r1 s1 _ _
    (on_three p.result q.result r.result s.result p1 q1 r1 s1)
    (twenty_six p.result q.result r.result s.result p1 q1 r1 s1)

pub overflow_add-second-2 : goal.overflow_add-second-2
overflow_add-second-2 c =
    let p = c.difference-first in let q = c.difference-second in
    let r = c.difference-third in let s = c.difference-fourth in
    let p1 = p.ensures.bound in let q1 = q.ensures.bound in let r1 = r.ensures.bound in let s1 = s.ensures.bound in
    at_fits p.result q.result r.result s.result p1 q1 r1 s1 _ _
    (at_two p.result q.result r.result s.result p1 q1 r1 s1)
    (seventy_one p.result q.result r.result s.result p1 q1 r1 s1)

pub overflow_sub-second : goal.overflow_sub-second
overflow_sub-second c =
    let p = c.difference-first in let q = c.difference-second in
    let r = c.difference-third in let s = c.difference-fourth in
    let p1 = p.ensures.bound in let q1 = q.ensures.bound in let r1 = r.ensures.bound in let s1 = s.ensures.bound in
    round_fits p.result q.result r.result s.result p1 q1 r1 s1 _
    (at_three p.result q.result r.result s.result p1 q1 r1 s1)

pub returns-clause-sum : goal.returns-clause-sum
unfolding correlation weight wave_sample cycle_sample half_wave quarter
returns-clause-sum c =
    let w = c.args.window.now in
    let p = c.difference-first in let q = c.difference-second in
    let r = c.difference-third in let s = c.difference-fourth in
    let p1 = p.ensures.bound in let q1 = q.ensures.bound in let r1 = r.ensures.bound in let s1 = s.ensures.bound in
    let p2 = p.ensures.value in let q2 = q.ensures.value in let r2 = r.ensures.value in let s2 = s.ensures.value in
    let on = on_given p.result q.result r.result s.result p1 q1 r1 s1 _ _ _
    (on_three p.result q.result r.result s.result p1 q1 r1 s1)
    (twenty_six p.result q.result r.result s.result p1 q1 r1 s1) c.from.ensures
    ∙ on_sum w p.result q.result r.result s.result p2 q2 r2 s2 ∙ sum-product_at Mark 8 w weights_on refl in
    let at = at_given p.result q.result r.result s.result p1 q1 r1 s1 _ _
    (at_three p.result q.result r.result s.result p1 q1 r1 s1) c.from-2.ensures
    ∙ ap neg_ℤ (at_sum w p.result q.result r.result s.result p2 q2 r2 s2 ∙ sum-product_at Mark 0 w weights_at refl) in
    λ i. record { a = on i; b = at i }

pub returns-clause-bound : goal.returns-clause-bound
returns-clause-bound c =
    let p = c.difference-first in let q = c.difference-second in
    let r = c.difference-third in let s = c.difference-fourth in
    let p1 = p.ensures.bound in let q1 = q.ensures.bound in let r1 = r.ensures.bound in let s1 = s.ensures.bound in
    within p.result q.result r.result s.result p1 q1 r1 s1 _ _
    (on_given p.result q.result r.result s.result p1 q1 r1 s1 _ _ _
    (on_three p.result q.result r.result s.result p1 q1 r1 s1)
    (twenty_six p.result q.result r.result s.result p1 q1 r1 s1) c.from.ensures)
    (at_given p.result q.result r.result s.result p1 q1 r1 s1 _ _
    (at_three p.result q.result r.result s.result p1 q1 r1 s1) c.from-2.ensures)
