use Rattle.tone_tracking.proofs.Common.{◌≡◌, ◌≤◌, ◌-ℤ◌, ◌+ℤ◌, ℤ, unsigned_abs, FitsSigned, to_z, of_z, w16, w32, ◌∙◌, arith, ints}
use Rattle.tone_tracking.proofs.Common.{to_z-of_z}
use Rattle.tone_tracking.proofs.mean_remover.slid_sum.Goals as goal

passed : (sum first more : ℤ) → unsigned_abs sum ≤ 1048576 → unsigned_abs first ≤ 32768 → unsigned_abs more ≤ 32768
    → to_z w32 (of_z w32 (to_z w32 (of_z w32 (to_z w32 (of_z w32 sum) -ℤ to_z w32 (of_z w32 first)))
    +ℤ to_z w32 (of_z w32 more))) ≡ (sum -ℤ first) +ℤ more
passed sum first more small one two = omega (arith, ints)

pub returns : goal.returns
returns c =
    let one : FitsSigned w16 c.args.first = c.ranges.first in
    let two : FitsSigned w16 c.args.more = c.ranges.more in
    let first = c.from.ensures ∙ to_z-of_z w16 c.args.first one in
    let more = c.from-2.ensures ∙ to_z-of_z w16 c.args.more two in
    (λ i. to_z w32 (of_z w32 (to_z w32 (of_z w32 (to_z w32 (of_z w32 c.args.sum) -ℤ to_z w32 (of_z w32 (first i))))
    +ℤ to_z w32 (of_z w32 (more i)))))
    ∙ passed c.args.sum c.args.first c.args.more c.requires (omega (arith, ints)) (omega (arith, ints))
