use Rattle.resampler.proofs.Common.{rules, ◌≡◌, ◌≤◌, ◌+◌, ◌∙◌, ℤ, pos, List, [], ◌∷◌, ◌++◌, get_or, length, take, arith}
use Rattle.resampler.proofs.Common.{refl, subst, FitsSigned, w16, to_z-of_z, take_all, settled, StandsFor}
use Rattle.std.specs.Option.{option_to_list}
use Rattle.std.proofs.lemmas.List.{take_more}
use Rattle.resampler.proofs.FeedLemmas.{fed_none, fed_more}
use Rattle.resampler.proofs.feeding.feed_low_pass.Goals as goal

pub loop-sample-init : goal.loop-sample-init
loop-sample-init c = record {
  so_far = λ x h. fed_none StandsFor settled c.args.filter.now x h;
  few = omega arith;
  room = refl;
}

pub loop-sample-preserved : goal.loop-sample-preserved
loop-sample-preserved c =
    let block : List ℤ = c.args.block.now in
    let i = c.loop-sample.sample-index in
    let sample : ℤ = get_or block i (pos 0) in
    let fits : FitsSigned w16 sample = search rules in
    let before = c.loop-sample.invariant in
    let few = before.few in
    let most = c.put-count.ensures.most in
    let stands = subst (λ (z : ℤ). (y : List ℤ) → StandsFor c.loop-sample.filter y
    → StandsFor c.push.new.self (y ++ z ∷ [])) (to_z-of_z w16 sample fits) c.push.ensures.stands_for in
    let gives = subst (λ (z : ℤ). (y : List ℤ) → StandsFor c.loop-sample.filter y
    → settled (y ++ z ∷ []) ≡ settled y ++ option_to_list c.push.result) (to_z-of_z w16 sample fits)
    c.push.ensures.settled in
    record {
      so_far = λ x h. fed_more StandsFor settled c.loop-sample.filter c.push.new.self x (take i block)
          (take (i + 1) block) sample (take c.loop-sample.count c.loop-sample.out)
          (take c.put-count.result c.put-count.new.out) (option_to_list c.push.result)
          (take_more block i (pos 0) c.loop-sample-test.true) c.put-count.ensures.put stands gives
          (before.so_far x h);
      few = omega arith;
      room = c.put-count.ensures.room ∙ before.room;
    }

pub returns-clause-fed : goal.returns-clause-fed
returns-clause-fed c = λ x h.
    let past = c.loop-sample-test.false in
    subst (λ (y : List ℤ). StandsFor c.loop-sample.filter (x ++ y)
    × (settled (x ++ y) ≡ settled x ++ take c.loop-sample.count c.loop-sample.out))
    (take_all c.loop-sample.sample-index c.args.block.now (omega arith))
    (c.loop-sample.invariant.so_far x h)
