use Rattle.offset_slicers.proofs.Common.{rules, ◌≤◌, ◌∙◌, ℕ, ℤ, pos, ◌∷◌, get_or, FitsSigned, sym}
use Rattle.offset_slicers.proofs.Common.{subst, arith, ints, unsigned_abs, w16}
use Rattle.std.proofs.Common.{[]}
use Rattle.std.specs.List.{All}
use Rattle.offset_slicers.proofs.LaneLemmas.{all_eight, eight_items, widened}
use Rattle.offset_slicers.proofs.correlators.vector_of.Goals as goal

small : (z : ℤ) → FitsSigned w16 z → unsigned_abs z ≤ 32768
small z fits = omega (arith, ints)

pub returns-clause-lanes : goal.returns-clause-lanes
returns-clause-lanes c =
    let xs = c.args.numbers.now in
    let at : ℕ → ℤ = λ k. get_or xs k (pos 0) in
    let one = widened (at 0) (search rules) in
    let two = widened (at 1) (search rules) in
    let three = widened (at 2) (search rules) in
    let four = widened (at 3) (search rules) in
    let five = widened (at 4) (search rules) in
    let six = widened (at 5) (search rules) in
    let seven = widened (at 6) (search rules) in
    let eight = widened (at 7) (search rules) in
    (λ i. one i ∷ two i ∷ three i ∷ four i ∷ five i ∷ six i ∷ seven i ∷ eight i ∷ []) ∙ sym (eight_items xs c.told-numbers)

pub returns-clause-bound : goal.returns-clause-bound
returns-clause-bound c =
    let xs = c.args.numbers.now in
    let at : ℕ → ℤ = λ k. get_or xs k (pos 0) in
    subst (All (λ number. unsigned_abs number ≤ 32768)) (sym (eight_items xs c.told-numbers) ∙ sym (returns-clause-lanes c))
    (all_eight 32768 (at 0) (at 1) (at 2) (at 3) (at 4) (at 5) (at 6) (at 7) (small (at 0) (search rules)) (small (at 1) (search rules))
    (small (at 2) (search rules)) (small (at 3) (search rules)) (small (at 4) (search rules)) (small (at 5) (search rules))
    (small (at 6) (search rules)) (small (at 7) (search rules)))
