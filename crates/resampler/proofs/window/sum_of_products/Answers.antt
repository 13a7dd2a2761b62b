use Rattle.offset_slicers.proofs.Common.{rules, ◌≡◌, ◌<◌, pos, ◌+ℤ◌, ◌*ℤ◌, unsigned_abs, get_or, length, FitsSigned}
use Rattle.offset_slicers.proofs.Common.{to_z, refl, sym, ap, ◌∙◌, arith, ints, sum_below, product_of, w16}
use Rattle.std.proofs.Common.{w32}
use Rattle.std.proofs.lemmas.List.Sums.{sum_by_more, sum_by_more_le}
use Rattle.offset_slicers.proofs.DecisionLemmas.{sum_below-more, product_is, product_bound, sum_is}
use Rattle.resampler.proofs.window.sum_of_products.Goals as goal

pub loop-i-init : goal.loop-i-init
unfolding sum_below
loop-i-init c = record { so_far = refl; bound = omega arith }

pub overflow_add-sum : goal.overflow_add-sum
overflow_add-sum c =
    let window = c.args.window.now in
    let weights = c.args.weights.now in
    let i = c.loop-i.i in
    let sample : FitsSigned w16 (get_or window i (pos 0)) = search rules in
    let weight : FitsSigned w16 (get_or weights i (pos 0)) = search rules in
    let value : c.product-sum.result ≡ get_or window i (pos 0) *ℤ get_or weights i (pos 0) =
    product_is _ _ _ sample weight c.product-sum.ensures in
    let bound = product_bound _ _ _ sample value in
    let inside : i < length weights = search rules in
    omega (arith, ints, sum_by_more_le unsigned_abs weights i (pos 0) inside, bound)

pub loop-i-preserved : goal.loop-i-preserved
loop-i-preserved c =
    let window = c.args.window.now in
    let weights = c.args.weights.now in
    let i = c.loop-i.i in
    let sum = c.loop-i.sum in
    let sample : FitsSigned w16 (get_or window i (pos 0)) = search rules in
    let weight : FitsSigned w16 (get_or weights i (pos 0)) = search rules in
    let value : c.product-sum.result ≡ get_or window i (pos 0) *ℤ get_or weights i (pos 0)
    = product_is _ _ _ sample weight c.product-sum.ensures in
    let bound = product_bound _ _ _ sample value in
    let inside : i < length weights = search rules in
    let so_far : to_z w32 c.loop-i.sum-bits ≡ sum_below (product_of window weights) i = c.loop-i.invariant.so_far in
    let product_fits : FitsSigned w32 c.product-sum.result = search rules in
    let fits : FitsSigned w32 (to_z w32 c.loop-i.sum-bits +ℤ c.product-sum.result)
    = omega (arith, ints, sum_by_more_le unsigned_abs weights i (pos 0) inside, bound) in
    let is = sum_is w32 (to_z w32 c.loop-i.sum-bits) c.product-sum.result product_fits fits in
    record {
      so_far = is ∙ ap (λ s. s +ℤ c.product-sum.result) so_far
          ∙ ap (λ p. sum_below (product_of window weights) i +ℤ p) value
          ∙ sym (sum_below-more (product_of window weights) i);
      bound = rw is (omega (arith, ints, sum_by_more unsigned_abs weights i (pos 0) inside, bound));
    }
