use Rattle.hf_tracking.proofs.Common.{◌≡◌, ◌+◌, ◌*◌, ℕ, ℤ, pos, ◌+ℤ◌, ◌*ℤ◌, List, get_or, FitsSigned}
use Rattle.hf_tracking.proofs.Common.{to_z, of_z, refl, sym, ap, ◌∙◌, arith, ints, rules, to_z-of_z, sum_below, w16, w32}
use Rattle.hf_tracking.proofs.Common.{fine_weight}
use Rattle.offset_slicers.proofs.DecisionLemmas.{sum_below-more, sum_is}
use Rattle.hf_tracking.proofs.correlation.sum_of_products.Goals as goal

-- a product as it is passed and given back
product_is : (sample weight product : ℤ) → FitsSigned w16 sample → FitsSigned w32 weight
    → product ≡ to_z w16 (of_z w16 sample) *ℤ to_z w32 (of_z w32 weight) → product ≡ sample *ℤ weight
product_is sample weight product one two is =
    let a = to_z-of_z w16 sample one in
    let b = to_z-of_z w32 weight two in
    is ∙ (λ i. a i *ℤ b i)

pub loop-i-init : goal.loop-i-init
unfolding sum_below
loop-i-init c = record { so_far = refl; bound = omega arith }

pub loop-i-preserved : goal.loop-i-preserved
loop-i-preserved c =
    let window : List ℤ = c.args.window.now in
    let i : ℕ = c.loop-i.i in
    let term : ℕ → ℤ = λ j. get_or window j (pos 0) *ℤ fine_weight (c.args.begin + j * c.args.step) in
    let sample : FitsSigned w16 (get_or window i (pos 0)) = search rules in
    let weight : FitsSigned w32 c.weight.result = search rules in
    let value : c.product-sum.result ≡ term i
    = product_is (get_or window i (pos 0)) c.weight.result c.product-sum.result sample weight c.product-sum.ensures.value
    ∙ ap (λ w. get_or window i (pos 0) *ℤ w) c.weight.ensures.weight in
    let part : FitsSigned w32 c.product-sum.result = search rules in
    let so_far : to_z w32 c.loop-i.sum-bits ≡ sum_below term i = c.loop-i.invariant.so_far in
    let before = c.loop-i.invariant.bound in
    let small = c.product-sum.ensures.bound in
    let inside = c.loop-i-test.true in
    let fits : FitsSigned w32 (to_z w32 c.loop-i.sum-bits +ℤ c.product-sum.result) = omega (arith, ints) in
    let is = sum_is w32 (to_z w32 c.loop-i.sum-bits) c.product-sum.result part fits in
    record {
      so_far = is ∙ ap (λ s. s +ℤ c.product-sum.result) so_far ∙ ap (λ p. sum_below term i +ℤ p) value
          ∙ sym (sum_below-more term i);
      bound = rw is (omega (arith, ints));
    }
