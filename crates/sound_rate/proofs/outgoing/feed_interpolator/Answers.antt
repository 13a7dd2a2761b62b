use Rattle.std.proofs.Common.{◌≡◌, ◌+◌, ◌*◌, ◌∙◌, ℤ, pos, List, [], ◌∷◌, ◌++◌, get_or, length, take, arith, refl, rules}
use Rattle.std.proofs.Common.{subst, FitsSigned}
use Rattle.std.proofs.lemmas.Int.{to_z-of_z}
use Rattle.std.proofs.lemmas.List.{take_all, take_more}
use Rattle.resampler.specs.Filtered.{interpolated}
use Rattle.resampler.specs.Held.{HasStuffed}
use Rattle.resampler.proofs.FeedLemmas.{fed_none, fed_more}
use Rattle.sound_rate.proofs.outgoing.feed_interpolator.Goals as goal
use mir.Syntax.{w16}

pub loop-sample-init : goal.loop-sample-init
loop-sample-init c = record {
  so_far = λ x h. fed_none HasStuffed interpolated c.args.interpolator.now x h;
  size = refl;
  room = refl;
}

pub loop-sample-preserved : goal.loop-sample-preserved
loop-sample-preserved c =
    let block : List ℤ = c.args.block.now in
    let i = c.loop-sample.sample-index in
    let sample : ℤ = get_or block i (pos 0) in
    let fits : FitsSigned w16 sample = search rules in
    let before = c.loop-sample.invariant in
    let size = before.size in
    let count = c.put-count.ensures.count in
    let stands = subst (λ (z : ℤ). (y : List ℤ) → HasStuffed c.loop-sample.interpolator y
    → HasStuffed c.push.new.self (y ++ z ∷ [])) (to_z-of_z w16 sample fits) c.push.ensures.stands_for in
    let gives = subst (λ (z : ℤ). (y : List ℤ) → HasStuffed c.loop-sample.interpolator y
    → interpolated (y ++ z ∷ []) ≡ interpolated y ++ c.push.result) (to_z-of_z w16 sample fits)
    c.push.ensures.given in
    record {
      so_far = λ x h. fed_more HasStuffed interpolated c.loop-sample.interpolator c.push.new.self x (take i block)
          (take (i + 1) block) sample (take c.loop-sample.count c.loop-sample.out)
          (take c.put-count.result c.put-count.new.out) c.push.result
          (take_more block i (pos 0) c.loop-sample-test.true) c.put-count.ensures.put stands gives
          (before.so_far x h);
      size = omega arith;
      room = c.put-count.ensures.room ∙ before.room;
    }

pub returns-clause-fed : goal.returns-clause-fed
returns-clause-fed c = λ x h.
    let past = c.loop-sample-test.false in
    subst (λ (y : List ℤ). HasStuffed c.loop-sample.interpolator (x ++ y)
    × (interpolated (x ++ y) ≡ interpolated x ++ take c.loop-sample.count c.loop-sample.out))
    (take_all c.loop-sample.sample-index c.args.block.now (omega arith))
    (c.loop-sample.invariant.so_far x h)
