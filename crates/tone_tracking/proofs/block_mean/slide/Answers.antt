use Rattle.tone_tracking.proofs.Common.{◌≤◌, ◌+◌, pos, get_or, sym, subst, arith}
use Rattle.tone_tracking.proofs.Common.{rules, unsigned_abs, FitsSigned, to_z-of_z, w16, w32}
use Rattle.tone_tracking.proofs.LevelLemmas.{sum_from_small, sum_slid, small_more}
use Rattle.tone_tracking.proofs.block_mean.slide.Goals as goal

pub slid_sum-sum-requires : goal.slid_sum-sum-requires
slid_sum-sum-requires c =
    subst (λ z. unsigned_abs z ≤ 1048576) (sym c.loop-place.invariant.sum)
    (sum_from_small c.args.samples.now c.loop-place.place c.loop-place.invariant.small)

pub loop-place-preserved : goal.loop-place-preserved
loop-place-preserved c =
    let samples = c.args.samples.now in
    let place = c.loop-place.place in
    let past = c.loop-place-test.true in
    let inside = c.requires.inside in
    let wide : FitsSigned w32 c.slid_sum-sum.result = search rules in
    let first : FitsSigned w16 (get_or samples place (pos 0)) = search rules in
    let more : FitsSigned w16 (get_or samples (place + 32) (pos 0)) = search rules in
    let sum = sum_slid samples place _ _ _ _ _ c.loop-place.invariant.sum
    (to_z-of_z w16 (get_or samples place (pos 0)) first)
    (to_z-of_z w16 (get_or samples (place + 32) (pos 0)) more) c.slid_sum-sum.ensures
    (to_z-of_z w32 c.slid_sum-sum.result wide) in
    let small = small_more samples (place + 32) (place + 1 + 32) (omega arith) c.loop-place.invariant.small more in
    record { sum = sum; small = small }
