use Rattle.tone_tracking.proofs.Common.{◌≤◌, ◌<◌, ◌+◌, ◌-◌, ◌∙◌, pos, get_or, length, sym, subst, arith}
use Rattle.tone_tracking.proofs.Common.{rules, unsigned_abs, FitsSigned, to_z-of_z, w16, w32, length-set}
use Rattle.tone_tracking.proofs.LevelLemmas.{sum_from_small, sum_slid, small_more, level_made, written_same, written_made}
use Rattle.tone_tracking.proofs.ListsLemmas.{all_small-set}
use Rattle.tone_tracking.proofs.block_mean.write_levels.Goals as goal

pub slid_sum-sum-requires : goal.slid_sum-sum-requires
slid_sum-sum-requires c =
    subst (λ z. unsigned_abs z ≤ 1048576) (sym c.loop-place.invariant.sum)
    (sum_from_small c.args.samples.now c.loop-place.place c.loop-place.invariant.samples)

pub less_mean-requires : goal.less_mean-requires
less_mean-requires c =
    let samples = c.args.samples.now in
    let place = c.loop-place.place in
    let past = c.loop-place-test.true in
    let inside = c.requires.inside in
    let wide : FitsSigned w32 c.slid_sum-sum.result = search rules in
    let first : FitsSigned w16 (get_or samples place (pos 0)) = search rules in
    let more : FitsSigned w16 (get_or samples (place + 32) (pos 0)) = search rules in
    let sum = sum_slid samples place _ _ _ _ _ c.loop-place.invariant.sum
    (to_z-of_z w16 (get_or samples place (pos 0)) first)
    (to_z-of_z w16 (get_or samples (place + 32) (pos 0)) more) c.slid_sum-sum.ensures
    (to_z-of_z w32 c.slid_sum-sum.result wide) in
    let small = small_more samples (place + 32) (place + 1 + 32) (omega arith) c.loop-place.invariant.samples more in
    subst (λ z. unsigned_abs z ≤ 1048576) (sym sum) (sum_from_small samples (place + 1) small)

pub loop-place-preserved : goal.loop-place-preserved
loop-place-preserved c =
    let samples = c.args.samples.now in
    let place = c.loop-place.place in
    let past = c.loop-place-test.true in
    let inside = c.requires.inside in
    let wide : FitsSigned w32 c.slid_sum-sum.result = search rules in
    let first : FitsSigned w16 (get_or samples place (pos 0)) = search rules in
    let more : FitsSigned w16 (get_or samples (place + 32) (pos 0)) = search rules in
    let sum = sum_slid samples place _ _ _ _ _ c.loop-place.invariant.sum
    (to_z-of_z w16 (get_or samples place (pos 0)) first)
    (to_z-of_z w16 (get_or samples (place + 32) (pos 0)) more) c.slid_sum-sum.ensures
    (to_z-of_z w32 c.slid_sum-sum.result wide) in
    let small = small_more samples (place + 32) (place + 1 + 32) (omega arith) c.loop-place.invariant.samples more in
    let h = c.loop-place.invariant in
    let low = c.loop-place.auto.place in
    let room = c.requires.room in
    let at = c.args.first + (place - c.args.from) in
    let inner : at < length c.loop-place.levels = let same = h.length in omega arith in
    let middle : FitsSigned w16 (get_or samples (place + 17) (pos 0)) = search rules in
    let level_fits : FitsSigned w32 c.less_mean.result = search rules in
    let kept = to_z-of_z w32 c.less_mean.result level_fits in
    let level = level_made samples place _ _ _ _ sum (to_z-of_z w16 (get_or samples (place + 17) (pos 0)) middle)
    c.less_mean.ensures.value kept in
    record {
      sum = sum;
      samples = small;
      length = length-set c.loop-place.levels at _ ∙ h.length;
      same = written_same samples c.loop-place.levels c.args.from place c.args.first _ low inner _ h.same;
      made = written_made samples c.loop-place.levels c.args.from place c.args.first _ low inner level h.made;
      small = all_small-set 262144 c.loop-place.levels at _ h.small
          (subst (λ z. unsigned_abs z ≤ 262144) (sym kept) c.less_mean.ensures.bound);
    }
