use Rattle.tone_tracking.proofs.Common.{◌≡◌, ◌+◌, ◌<◌, ◌≤◌, ◌∙◌, ℕ, ℤ, List, pos, get_or, length, All, unsigned_abs}
use Rattle.tone_tracking.proofs.Common.{arith, ints, to_z, of_z, FitsSigned, w32, to_z-of_z}
use Rattle.tone_tracking.proofs.CorrelationLemmas.{correlations-eight}
use Rattle.tone_tracking.proofs.slot_tracker.correlate_at.Goals as goal

-- a level as it is copied
copied : (levels : List ℤ) (k : ℕ) → All (λ level. unsigned_abs level ≤ 262144) levels → k < length levels
    → to_z w32 (of_z w32 (get_or levels k (pos 0))) ≡ get_or levels k (pos 0)
copied levels k small inside =
    let most = small k (pos 0) inside in
    let fits : FitsSigned w32 (get_or levels k (pos 0)) = omega (arith, ints) in
    to_z-of_z w32 (get_or levels k (pos 0)) fits

pub returns-clause-sums : goal.returns-clause-sums
returns-clause-sums c =
    let levels = c.args.levels.now in
    let place = c.args.place in
    let small = c.requires.levels in
    let whole = c.requires.place in
    c.correlate.ensures.sums ∙ correlations-eight levels place _ _ _ _ _ _ _ _
    (copied levels place small (omega arith)) (copied levels (place + 1) small (omega arith))
    (copied levels (place + 2) small (omega arith)) (copied levels (place + 3) small (omega arith))
    (copied levels (place + 4) small (omega arith)) (copied levels (place + 5) small (omega arith))
    (copied levels (place + 6) small (omega arith)) (copied levels (place + 7) small (omega arith))
