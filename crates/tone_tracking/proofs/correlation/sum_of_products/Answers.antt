use Rattle.tone_tracking.proofs.Common.{rules, ◌≡◌, ◌≤◌, ◌*◌, ◌<◌, ℤ, pos, ◌+ℤ◌, ◌*ℤ◌, unsigned_abs, get_or, length, FitsSigned}
use Rattle.tone_tracking.proofs.Common.{w32, to_z, of_z, refl, sym, subst, ap, ◌∙◌, arith, ints, to_z-of_z, sum_below}
use Rattle.tone_tracking.proofs.Common.{product_of}
use Rattle.std.proofs.lemmas.List.Sums.{get_or-le-sum_by, sum_by_more, sum_by_more_le}
use Rattle.offset_slicers.proofs.DecisionLemmas.{sum_below-more, sum_is}
use Rattle.tone_tracking.proofs.CorrelationLemmas.{product_size}
use Rattle.tone_tracking.proofs.correlation.sum_of_products.Goals as goal

-- the product of a sample and a weight as it is passed
product_is : (sample weight product : ℤ) → FitsSigned w32 sample → FitsSigned w32 weight
    → product ≡ to_z w32 (of_z w32 sample) *ℤ to_z w32 (of_z w32 weight) → product ≡ sample *ℤ weight
product_is sample weight product sample_fits weight_fits is = simp to_z-of_z at is

pub product-sum-requires-clause-sample : goal.product-sum-requires-clause-sample
product-sum-requires-clause-sample c =
    let window = c.args.window.now in
    let i = c.loop-i.i in
    let fits : FitsSigned w32 (get_or window i (pos 0)) = search rules in
    let eight : length window ≡ 8 = search rules in
    let weights : length c.args.weights.now ≡ 8 = search rules in
    let inside : i < length c.args.weights.now = search rules in
    subst (λ z. unsigned_abs z ≤ 262144) (sym (to_z-of_z w32 (get_or window i (pos 0)) fits))
    (c.requires.samples i (pos 0) (omega arith))

pub product-sum-requires-clause-weight : goal.product-sum-requires-clause-weight
product-sum-requires-clause-weight c =
    let weights = c.args.weights.now in
    let i = c.loop-i.i in
    let fits : FitsSigned w32 (get_or weights i (pos 0)) = search rules in
    let inside : i < length weights = search rules in
    let light = get_or-le-sum_by unsigned_abs weights i (pos 0) inside in
    let all = c.requires.weights in
    subst (λ z. unsigned_abs z ≤ 566) (sym (to_z-of_z w32 (get_or weights i (pos 0)) fits)) (omega arith)

pub loop-i-init : goal.loop-i-init
unfolding sum_below
loop-i-init c = record { so_far = refl; bound = omega arith }

pub overflow_add-sum : goal.overflow_add-sum
overflow_add-sum c =
    let window = c.args.window.now in
    let weights = c.args.weights.now in
    let i = c.loop-i.i in
    let sample : FitsSigned w32 (get_or window i (pos 0)) = search rules in
    let weight : FitsSigned w32 (get_or weights i (pos 0)) = search rules in
    let value : c.product-sum.result ≡ get_or window i (pos 0) *ℤ get_or weights i (pos 0) =
    product_is _ _ _ sample weight c.product-sum.ensures in
    let eight : length window ≡ 8 = search rules in
    let inside : i < length weights = search rules in
    let small = c.requires.samples i (pos 0) (omega arith) in
    let bound = subst (λ z. unsigned_abs z ≤ 262144 * unsigned_abs (get_or weights i (pos 0))) (sym value)
    (product_size 262144 (get_or window i (pos 0)) (get_or weights i (pos 0)) small) in
    omega (arith, ints, sum_by_more_le unsigned_abs weights i (pos 0) inside, bound)

pub loop-i-preserved : goal.loop-i-preserved
loop-i-preserved c =
    let window = c.args.window.now in
    let weights = c.args.weights.now in
    let i = c.loop-i.i in
    let sample : FitsSigned w32 (get_or window i (pos 0)) = search rules in
    let weight : FitsSigned w32 (get_or weights i (pos 0)) = search rules in
    let value : c.product-sum.result ≡ get_or window i (pos 0) *ℤ get_or weights i (pos 0)
    = product_is _ _ _ sample weight c.product-sum.ensures in
    let eight : length window ≡ 8 = search rules in
    let inside : i < length weights = search rules in
    let small = c.requires.samples i (pos 0) (omega arith) in
    let bound = subst (λ z. unsigned_abs z ≤ 262144 * unsigned_abs (get_or weights i (pos 0))) (sym value)
    (product_size 262144 (get_or window i (pos 0)) (get_or weights i (pos 0)) small) in
    let so_far : to_z w32 c.loop-i.sum-bits ≡ sum_below (product_of window weights) i = c.loop-i.invariant.so_far in
    let product_fits : FitsSigned w32 c.product-sum.result = search rules in
    let fits : FitsSigned w32 (to_z w32 c.loop-i.sum-bits +ℤ c.product-sum.result)
    = omega (arith, ints, sum_by_more_le unsigned_abs weights i (pos 0) inside, bound) in
    let is = sum_is w32 (to_z w32 c.loop-i.sum-bits) c.product-sum.result product_fits fits in
    record {
      so_far = is ∙ ap (λ s. s +ℤ c.product-sum.result) so_far
          ∙ ap (λ p. sum_below (product_of window weights) i +ℤ p) value
          ∙ sym (sum_below-more (product_of window weights) i);
      bound = rw is (omega (arith, ints, sum_by_more unsigned_abs weights i (pos 0) inside, bound));
    }
