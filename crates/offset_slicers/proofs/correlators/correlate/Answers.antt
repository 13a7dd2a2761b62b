use Rattle.offset_slicers.proofs.Common.{◌≡◌, ◌≤◌, ◌+◌, ◌+ℤ◌, ◌∙◌, ◌∷◌, ℕ, ℤ, pos, List, get_or, map, to_z, of_z, refl}
use Rattle.offset_slicers.proofs.Common.{sym, subst, ap, arith, ints, unsigned_abs, Mark, Space}
use Rattle.offset_slicers.proofs.Common.{quarter, half_wave, cycle_sample, wave_sample, phase_step, sine_sum, cosine_sum}
use Rattle.offset_slicers.proofs.Common.{sum_below, product_of}
use Rattle.std.proofs.Common.{[], negsuc, w32, w64}
use Rattle.std.specs.List.{All}
use Rattle.offset_slicers.specs.PairSums.{AreSmall, in_pairs, pairs_of_products, product_pair}
use Rattle.offset_slicers.proofs.DecisionLemmas.{sum_below-wave}
use Rattle.offset_slicers.proofs.LaneLemmas.{lane, lane_is, passed_below, lane_small, four_small}
use Rattle.offset_slicers.proofs.correlators.correlate.Goals as goal

abbrev passed : List ℤ → List ℤ
passed xs = map (to_z w32) (map (of_z w32) xs)

-- the waves of both tones

abbrev mark_sine : List ℤ
mark_sine = pos 0 ∷ pos 7071 ∷ pos 10000 ∷ pos 7071 ∷ pos 0 ∷ negsuc 7070 ∷ negsuc 9999 ∷ negsuc 7070 ∷ []

abbrev mark_cosine : List ℤ
mark_cosine = pos 10000 ∷ pos 7071 ∷ pos 0 ∷ negsuc 7070 ∷ negsuc 9999 ∷ negsuc 7070 ∷ pos 0 ∷ pos 7071 ∷ []

abbrev space_sine : List ℤ
space_sine = pos 0 ∷ pos 9914 ∷ pos 2588 ∷ negsuc 9238 ∷ negsuc 4999 ∷ pos 7934 ∷ pos 7071 ∷ negsuc 6087 ∷ []

abbrev space_cosine : List ℤ
space_cosine = pos 10000 ∷ pos 1305 ∷ negsuc 9658 ∷ negsuc 3826 ∷ pos 8660 ∷ pos 6088 ∷ negsuc 7070 ∷ negsuc 7933 ∷ []

-- ---- a sum of eight products, as it is made, in pairs

abbrev in_halves : (ℕ → ℤ) → ℤ
in_halves f = ((f 0 +ℤ f 1) +ℤ (f 2 +ℤ f 3)) +ℤ ((f 4 +ℤ f 5) +ℤ (f 6 +ℤ f 7))

eight_added : (a b c d e f g h : ℤ) → ((a +ℤ b) +ℤ (c +ℤ d)) +ℤ ((e +ℤ f) +ℤ (g +ℤ h))
    ≡ (((((((pos 0 +ℤ a) +ℤ b) +ℤ c) +ℤ d) +ℤ e) +ℤ f) +ℤ g) +ℤ h
eight_added a b c d e f g h = omega (arith, ints)

in_halves_is : (f : ℕ → ℤ) → in_halves f ≡ sum_below f 8
unfolding sum_below
in_halves_is f = eight_added (f 0) (f 1) (f 2) (f 3) (f 4) (f 5) (f 6) (f 7)

-- a sum over the samples of a window
of_window : (x w weights : List ℤ) → x ≡ w → in_halves (product_of x weights) ≡ sum_below (product_of w weights) 8
of_window x w weights lanes =
    in_halves_is (product_of x weights) ∙ ap (λ xs. sum_below (product_of xs weights) 8) lanes

-- ---- the sums as they are given back

abbrev half : List ℤ → List ℤ → ℕ → ℤ
half x weights k = product_pair x weights k +ℤ product_pair x weights (k + 2)

-- the two sums of a tone from their halves
module _ (x sine cosine halves : List ℤ) (small : AreSmall 1050000000 halves)
    (is : halves ≡ in_pairs (pairs_of_products (passed x) sine) (pairs_of_products (passed x) cosine))
    (came : passed x ≡ x) where
  halves_are : halves ≡ in_pairs (pairs_of_products x sine) (pairs_of_products x cosine)
  halves_are = is ∙ ap (λ xs. in_pairs (pairs_of_products xs sine) (pairs_of_products xs cosine)) came

  sum_small : (a b : ℤ) → unsigned_abs a ≤ 1050000000 → unsigned_abs b ≤ 1050000000
      → unsigned_abs (a +ℤ b) ≤ 2100000000
  sum_small a b one two = omega (arith, ints)

  are : AreSmall 1050000000 (in_pairs (pairs_of_products x sine) (pairs_of_products x cosine))
  are = subst (AreSmall 1050000000) halves_are small

  sine_small : unsigned_abs (in_halves (product_of x sine)) ≤ 2100000000
  sine_small =
      sum_small (half x sine 0) (half x sine 4) (lane_small 1050000000 _ are 0 (omega arith))
      (lane_small 1050000000 _ are 1 (omega arith))

  cosine_small : unsigned_abs (in_halves (product_of x cosine)) ≤ 2100000000
  cosine_small =
      sum_small (half x cosine 0) (half x cosine 4) (lane_small 1050000000 _ are 2 (omega arith))
      (lane_small 1050000000 _ are 3 (omega arith))

  halves_passed : passed halves ≡ in_pairs (pairs_of_products x sine) (pairs_of_products x cosine)
  halves_passed = passed_below 1050000000 (omega arith) halves small.small ∙ halves_are

kept : (z wide : ℤ) (sums : List ℤ) (k : ℕ) → unsigned_abs z ≤ 2100000000 → get_or sums k (pos 0) ≡ z
    → wide ≡ lane (get_or sums k (pos 0)) → (to_z w64 (of_z w64 wide) ≡ z)
kept z wide sums k bound same is =
    let value : wide ≡ z = is ∙ ap lane same ∙ lane_is z (omega arith) in
    omega (arith, ints)

-- ---- the four sums

module _ (x : List ℤ) (small : All (λ sample. unsigned_abs sample ≤ 32768) x) (mark space result : List ℤ)
    (mark_small : AreSmall 1050000000 mark) (space_small : AreSmall 1050000000 space)
    (mark_is : mark ≡ in_pairs (pairs_of_products (passed x) mark_sine) (pairs_of_products (passed x) mark_cosine))
    (space_is : space ≡ in_pairs (pairs_of_products (passed x) space_sine) (pairs_of_products (passed x) space_cosine))
    (is : result ≡ in_pairs (passed mark) (passed space)) where
  abbrev sums_of : List ℤ
  sums_of =
      in_halves (product_of x mark_sine) ∷ in_halves (product_of x mark_cosine)
      ∷ in_halves (product_of x space_sine) ∷ in_halves (product_of x space_cosine) ∷ []

  came : passed x ≡ x
  came = passed_below 32768 (omega arith) x small

  result_is : result ≡ sums_of
  result_is =
      let one = halves_passed x mark_sine mark_cosine mark mark_small mark_is came in
      let two = halves_passed x space_sine space_cosine space space_small space_is came in
      is ∙ (λ i. in_pairs (one i) (two i))

  first : unsigned_abs (in_halves (product_of x mark_sine)) ≤ 2100000000
  first = sine_small x mark_sine mark_cosine mark mark_small mark_is came

  second : unsigned_abs (in_halves (product_of x mark_cosine)) ≤ 2100000000
  second = cosine_small x mark_sine mark_cosine mark mark_small mark_is came

  third : unsigned_abs (in_halves (product_of x space_sine)) ≤ 2100000000
  third = sine_small x space_sine space_cosine space space_small space_is came

  fourth : unsigned_abs (in_halves (product_of x space_cosine)) ≤ 2100000000
  fourth = cosine_small x space_sine space_cosine space space_small space_is came

  sums_passed : passed result ≡ sums_of
  sums_passed =
      ap passed result_is
      ∙ passed_below 2100000000 (omega arith) sums_of
      (four_small 2100000000 (in_halves (product_of x mark_sine)) (in_halves (product_of x mark_cosine))
      (in_halves (product_of x space_sine)) (in_halves (product_of x space_cosine)) first second third
      fourth).small

  pub given : (a b d e : ℤ) → a ≡ lane (get_or (passed result) 0 (pos 0)) → b ≡ lane (get_or (passed result) 1 (pos 0))
      → d ≡ lane (get_or (passed result) 2 (pos 0)) → e ≡ lane (get_or (passed result) 3 (pos 0))
      → (to_z w64 (of_z w64 a) ∷ to_z w64 (of_z w64 b) ∷ to_z w64 (of_z w64 d) ∷ to_z w64 (of_z w64 e) ∷ []) ≡ sums_of
  given a b d e a_is b_is d_is e_is =
      let at : (k : ℕ) → get_or (passed result) k (pos 0) ≡ get_or sums_of k (pos 0)
      = λ k. ap (λ xs. get_or xs k (pos 0)) sums_passed in
      let one = kept (in_halves (product_of x mark_sine)) a (passed result) 0 first (at 0) a_is in
      let two = kept (in_halves (product_of x mark_cosine)) b (passed result) 1 second (at 1) b_is in
      let three = kept (in_halves (product_of x space_sine)) d (passed result) 2 third (at 2) d_is in
      let four = kept (in_halves (product_of x space_cosine)) e (passed result) 3 fourth (at 3) e_is in
      λ i. one i ∷ two i ∷ three i ∷ four i ∷ []

  pub sums_small : All (λ sum. unsigned_abs sum ≤ 2621440000) sums_of
  sums_small k d below =
      let bound = (four_small 2100000000 (in_halves (product_of x mark_sine)) (in_halves (product_of x mark_cosine))
      (in_halves (product_of x space_sine)) (in_halves (product_of x space_cosine)) first second third
      fourth).small k d below in
      omega arith

-- ---- the goals

pub half_sums-mark-requires-clause-samples : goal.half_sums-mark-requires-clause-samples
half_sums-mark-requires-clause-samples c =
    let samples = c.vector_of-samples in
    subst (All (λ sample. unsigned_abs sample ≤ 32768))
    (sym (passed_below 32768 (omega arith) samples.result samples.ensures.bound)) samples.ensures.bound

pub half_sums-space-requires-clause-samples : goal.half_sums-space-requires-clause-samples
half_sums-space-requires-clause-samples c =
    let samples = c.vector_of-samples in
    subst (All (λ sample. unsigned_abs sample ≤ 32768))
    (sym (passed_below 32768 (omega arith) samples.result samples.ensures.bound)) samples.ensures.bound

pub in_pairs-requires-clause-first : goal.in_pairs-requires-clause-first
in_pairs-requires-clause-first c =
    let bound = c.half_sums-mark.ensures.bound in
    subst (AreSmall 1050000000) (sym (passed_below 1050000000 (omega arith) c.half_sums-mark.result bound.small)) bound

pub in_pairs-requires-clause-second : goal.in_pairs-requires-clause-second
in_pairs-requires-clause-second c =
    let bound = c.half_sums-space.ensures.bound in
    subst (AreSmall 1050000000) (sym (passed_below 1050000000 (omega arith) c.half_sums-space.result bound.small)) bound

pub returns-clause-sums : goal.returns-clause-sums
unfolding sine_sum cosine_sum wave_sample cycle_sample half_wave quarter
returns-clause-sums c =
    let x = c.vector_of-samples.result in
    let lanes = c.vector_of-samples.ensures.lanes in
    let w = c.args.window.now in
    let sum = given x c.vector_of-samples.ensures.bound c.half_sums-mark.result c.half_sums-space.result c.in_pairs.result
    c.half_sums-mark.ensures.bound c.half_sums-space.ensures.bound c.half_sums-mark.ensures.sums
    c.half_sums-space.ensures.sums c.in_pairs.ensures c.from.result c.from-2.result c.from-3.result c.from-4.result
    c.from.ensures c.from-2.ensures c.from-3.ensures c.from-4.ensures in
    let one = of_window x w mark_sine lanes ∙ sum_below-wave 8 (phase_step Mark) 0 w mark_sine refl in
    let two = of_window x w mark_cosine lanes ∙ sum_below-wave 8 (phase_step Mark) 12 w mark_cosine refl in
    let three = of_window x w space_sine lanes ∙ sum_below-wave 8 (phase_step Space) 0 w space_sine refl in
    let four = of_window x w space_cosine lanes ∙ sum_below-wave 8 (phase_step Space) 12 w space_cosine refl in
    sum ∙ (λ i. one i ∷ two i ∷ three i ∷ four i ∷ [])

pub returns-clause-bound : goal.returns-clause-bound
returns-clause-bound c =
    let x = c.vector_of-samples.result in
    let sum = given x c.vector_of-samples.ensures.bound c.half_sums-mark.result c.half_sums-space.result c.in_pairs.result
    c.half_sums-mark.ensures.bound c.half_sums-space.ensures.bound c.half_sums-mark.ensures.sums
    c.half_sums-space.ensures.sums c.in_pairs.ensures c.from.result c.from-2.result c.from-3.result c.from-4.result
    c.from.ensures c.from-2.ensures c.from-3.ensures c.from-4.ensures in
    subst (All (λ sum. unsigned_abs sum ≤ 2621440000)) (sym sum)
    (sums_small x c.vector_of-samples.ensures.bound c.half_sums-mark.result c.half_sums-space.result c.in_pairs.result
    c.half_sums-mark.ensures.bound c.half_sums-space.ensures.bound c.half_sums-mark.ensures.sums
    c.half_sums-space.ensures.sums c.in_pairs.ensures)
