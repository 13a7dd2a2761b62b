use Rattle.hf_tracking.proofs.Common.{◌+◌, ◌≤◌, ℤ, List, unsigned_abs, refl, sym, subst, ◌∙◌, Mark, Space, correlation}
use Rattle.hf_tracking.proofs.CorrelationLemmas.{sum-product_at, given_is, negated_is, negated_small}
use Rattle.std.proofs.Common.{neg_ℤ, ap, arith}
use Rattle.hf_tracking.proofs.correlation.correlate.Goals as goal

pub returns-clause-sums : goal.returns-clause-sums
unfolding correlation
returns-clause-sums c = λ x same.
    let bank = c.args.bank in
    let place = c.args.place in
    let window : List ℤ = c.args.window.now in
    let begin = c.phase_of-begin.result in
    let turn = c.phase_of-begin.ensures.phase in
    let mark = c.step_of-mark.ensures.step in
    let space = c.step_of-space.ensures.step in
    let a = given_is _ _ c.sum_of_products.ensures.bound c.from.ensures ∙ c.sum_of_products.ensures.sum
    ∙ sum-product_at bank 64 begin (begin + 64) c.step_of-mark.result place Mark window x turn mark refl same in
    let b = negated_is _ _ c.sum_of_products-2.ensures.bound c.from-2.ensures
    ∙ ap neg_ℤ (c.sum_of_products-2.ensures.sum
    ∙ sum-product_at bank 0 begin begin c.step_of-mark.result place Mark window x turn mark (omega arith) same) in
    let d = given_is _ _ c.sum_of_products-3.ensures.bound c.from-3.ensures ∙ c.sum_of_products-3.ensures.sum
    ∙ sum-product_at bank 64 begin (begin + 64) c.step_of-space.result place Space window x turn space refl same in
    let e = negated_is _ _ c.sum_of_products-4.ensures.bound c.from-4.ensures
    ∙ ap neg_ℤ (c.sum_of_products-4.ensures.sum
    ∙ sum-product_at bank 0 begin begin c.step_of-space.result place Space window x turn space (omega arith) same) in
    λ i. record { mark = record { a = a i; b = b i }; space = record { a = d i; b = e i } }

pub returns-clause-bound : goal.returns-clause-bound
returns-clause-bound c =
    let P : ℤ → Type 0 = λ z. unsigned_abs z ≤ 104857600 in
    record {
      mark = record {
        first = subst P (sym (given_is c.sum_of_products.result c.from.result c.sum_of_products.ensures.bound c.from.ensures)) c.sum_of_products.ensures.bound;
        second = subst P (sym (negated_is c.sum_of_products-2.result c.from-2.result c.sum_of_products-2.ensures.bound c.from-2.ensures))
            (negated_small c.sum_of_products-2.result c.sum_of_products-2.ensures.bound);
      };
      space = record {
        first = subst P (sym (given_is c.sum_of_products-3.result c.from-3.result c.sum_of_products-3.ensures.bound c.from-3.ensures)) c.sum_of_products-3.ensures.bound;
        second = subst P (sym (negated_is c.sum_of_products-4.result c.from-4.result c.sum_of_products-4.ensures.bound c.from-4.ensures))
            (negated_small c.sum_of_products-4.result c.sum_of_products-4.ensures.bound);
      };
    }
