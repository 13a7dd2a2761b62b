use Rattle.std.proofs.Common.{◌≡◌, pos, ℤ, ◌+ℤ◌, ◌*ℤ◌, unsigned_abs, ◌≤◌, get_or, FitsSigned, to_z, of_z, w16, w64}
use Rattle.std.proofs.Common.{refl, sym, ap, ◌∙◌, arith, rules}
use Rattle.std.proofs.lemmas.Int.{ints}
use Rattle.offset_slicers.specs.Decision.{sum_below}
use Rattle.offset_slicers.proofs.DecisionLemmas.{sum_below-more, sum_is}
use Rattle.tone_carrier.specs.HeardWindows.{square_at, square_sum_of}
use Rattle.tone_carrier.proofs.NumberLemmas.{product_bound, square_least}
use Rattle.tone_carrier.proofs.window_power.square_sum_of.Goals as goal

pub loop-i-init : goal.loop-i-init
unfolding sum_below
loop-i-init c = record { so_far = refl; least = omega (arith, ints); most = omega (arith, ints) }

-- the square of a sample
square_bound : (z : ℤ) → FitsSigned w16 z → unsigned_abs (z *ℤ z) ≤ 1073741824
square_bound z fits =
    let small : unsigned_abs z ≤ 32768 = omega (arith, ints) in product_bound 32768 32768 z z small small

pub loop-i-preserved : goal.loop-i-preserved
loop-i-preserved c =
    let window = c.args.window.now in
    let i = c.loop-i.i in
    let below = c.loop-i-test.true in
    let z = get_or window i (pos 0) in
    let sample : FitsSigned w16 (get_or window i (pos 0)) = search rules in
    let given = c.from.ensures in
    let number : to_z w64 (of_z w64 c.from.result) ≡ get_or window i (pos 0) = omega (arith, ints) in
    let value : c.square-sum.result ≡ get_or window i (pos 0) *ℤ get_or window i (pos 0)
    = c.square-sum.ensures.value ∙ (λ j. number j *ℤ number j) in
    let size = square_bound (get_or window i (pos 0)) sample in
    let positive = square_least (get_or window i (pos 0)) in
    let least = c.loop-i.invariant.least in
    let most = c.loop-i.invariant.most in
    let fits_more : FitsSigned w64 c.square-sum.result = omega (arith, ints) in
    let fits : FitsSigned w64 (to_z w64 c.loop-i.sum-bits +ℤ c.square-sum.result) = omega (arith, ints) in
    let is = sum_is w64 (to_z w64 c.loop-i.sum-bits) c.square-sum.result fits_more fits in
    record {
      so_far = is ∙ (λ j. c.loop-i.invariant.so_far j +ℤ value j) ∙ sym (sum_below-more (square_at window) i);
      least = omega (arith, ints, is);
      most = omega (arith, ints, is);
    }

pub returns-clause-sum : goal.returns-clause-sum
unfolding square_sum_of
returns-clause-sum c =
    let past = c.loop-i-test.false in
    let end = c.loop-i.auto.i-end in
    let all : c.loop-i.i ≡ 8 = omega arith in
    c.loop-i.invariant.so_far ∙ ap (sum_below (square_at c.args.window.now)) all
