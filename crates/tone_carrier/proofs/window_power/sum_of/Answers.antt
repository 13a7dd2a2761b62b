use Rattle.std.proofs.Common.{◌≡◌, pos, ◌+ℤ◌, get_or, FitsSigned, to_z, w16, w64, refl, sym, ap, ◌∙◌, arith, rules}
use Rattle.std.proofs.lemmas.Int.{ints}
use Rattle.offset_slicers.specs.Decision.{sum_below}
use Rattle.offset_slicers.proofs.DecisionLemmas.{sum_below-more, sum_is}
use Rattle.tone_carrier.specs.HeardWindows.{sample_at, sum_of}
use Rattle.tone_carrier.proofs.window_power.sum_of.Goals as goal

pub loop-i-init : goal.loop-i-init
unfolding sum_below
loop-i-init c = record { so_far = refl; bound = omega arith }

pub loop-i-preserved : goal.loop-i-preserved
loop-i-preserved c =
    let window = c.args.window.now in
    let i = c.loop-i.i in
    let below = c.loop-i-test.true in
    let sample : FitsSigned w16 (get_or window i (pos 0)) = search rules in
    let given = c.from-sum.ensures in
    let value : c.from-sum.result ≡ get_or window i (pos 0) = omega (arith, ints) in
    let bound = c.loop-i.invariant.bound in
    let fits_more : FitsSigned w64 c.from-sum.result = omega (arith, ints) in
    let fits : FitsSigned w64 (to_z w64 c.loop-i.sum-bits +ℤ c.from-sum.result) = omega (arith, ints) in
    let is = sum_is w64 (to_z w64 c.loop-i.sum-bits) c.from-sum.result fits_more fits in
    record {
      so_far = is ∙ (λ j. c.loop-i.invariant.so_far j +ℤ value j) ∙ sym (sum_below-more (sample_at window) i);
      bound = omega (arith, ints, is);
    }

pub returns-clause-sum : goal.returns-clause-sum
unfolding sum_of
returns-clause-sum c =
    let past = c.loop-i-test.false in
    let end = c.loop-i.auto.i-end in
    let all : c.loop-i.i ≡ 8 = omega arith in
    c.loop-i.invariant.so_far ∙ ap (sum_below (sample_at c.args.window.now)) all
