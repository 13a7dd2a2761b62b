use Rattle.hf_modem.proofs.Common.{rules, ◌≡◌, ◌<◌, ℤ, pos, ◌*ℤ◌, unsigned_abs, get_or, length, FitsSigned, w64, to_z}
use Rattle.hf_modem.proofs.Common.{of_z, refl, sym, ap, ◌∙◌, arith, ints, to_z-of_z, fits_signed_mul, sum_below}
use Rattle.hf_modem.proofs.Common.{product_of, w16}
use Rattle.std.proofs.Common.{◌+ℤ◌, w32}
use Rattle.std.proofs.lemmas.List.Sums.{sum_by_more, sum_by_more_le}
use Rattle.offset_slicers.proofs.DecisionLemmas.{sum_below-more, product_is, product_bound, sum_is}
use Rattle.hf_modem.proofs.correlators.sum_of_products.Goals as goal

pub loop-i-init : goal.loop-i-init
unfolding sum_below
loop-i-init c = record { so_far = refl; bound = omega arith }

-- a product as it is given back and then widened
wide_is : (sample weight product wide : ℤ) → FitsSigned w16 sample → FitsSigned w16 weight
    → product ≡ to_z w16 (of_z w16 sample) *ℤ to_z w16 (of_z w16 weight)
    → wide ≡ to_z w32 (of_z w32 product) → wide ≡ sample *ℤ weight
wide_is sample weight product wide sample_fits weight_fits value is =
    let fits : FitsSigned w32 (sample *ℤ weight) = fits_signed_mul w32 sample weight 32768 32768 (omega (arith, ints))
    (omega (arith, ints)) (omega arith) in
    is ∙ ap (λ z. to_z w32 (of_z w32 z)) (product_is sample weight product sample_fits weight_fits value)
    ∙ to_z-of_z w32 (sample *ℤ weight) fits

pub overflow_add-sum : goal.overflow_add-sum
overflow_add-sum c =
    let window = c.args.window.now in
    let weights = c.args.weights.now in
    let i = c.loop-i.i in
    let sample : FitsSigned w16 (get_or window i (pos 0)) = search rules in
    let weight : FitsSigned w16 (get_or weights i (pos 0)) = search rules in
    let wide : c.from-sum.result ≡ get_or window i (pos 0) *ℤ get_or weights i (pos 0) =
    wide_is _ _ _ _ sample weight c.product.ensures c.from-sum.ensures in
    let bound = product_bound _ _ _ sample wide in
    let inside : i < length weights = search rules in
    omega (arith, ints, sum_by_more_le unsigned_abs weights i (pos 0) inside, bound)

pub loop-i-preserved : goal.loop-i-preserved
loop-i-preserved c =
    let window = c.args.window.now in
    let weights = c.args.weights.now in
    let i = c.loop-i.i in
    let sample : FitsSigned w16 (get_or window i (pos 0)) = search rules in
    let weight : FitsSigned w16 (get_or weights i (pos 0)) = search rules in
    let wide : c.from-sum.result ≡ get_or window i (pos 0) *ℤ get_or weights i (pos 0) =
    wide_is _ _ _ _ sample weight c.product.ensures c.from-sum.ensures in
    let bound = product_bound _ _ _ sample wide in
    let inside : i < length weights = search rules in
    let so_far : to_z w64 c.loop-i.sum-bits ≡ sum_below (product_of window weights) i = c.loop-i.invariant.so_far in
    let product_fits : FitsSigned w64 c.from-sum.result = search rules in
    let fits : FitsSigned w64 (to_z w64 c.loop-i.sum-bits +ℤ c.from-sum.result)
    = omega (arith, ints, sum_by_more_le unsigned_abs weights i (pos 0) inside, bound) in
    let is = sum_is w64 (to_z w64 c.loop-i.sum-bits) c.from-sum.result product_fits fits in
    record {
      so_far = is ∙ ap (λ s. s +ℤ c.from-sum.result) so_far
          ∙ ap (λ p. sum_below (product_of window weights) i +ℤ p) wide
          ∙ sym (sum_below-more (product_of window weights) i);
      bound = rw is (omega (arith, ints, sum_by_more unsigned_abs weights i (pos 0) inside, bound));
    }
