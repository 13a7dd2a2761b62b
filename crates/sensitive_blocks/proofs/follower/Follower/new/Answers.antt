use Rattle.sensitive_blocks.proofs.Common.{arith, tones}
use Rattle.tone_tracking.specs.declared.reach.Reach.TheVariants.{Alone, Near, Far}
use Rattle.tone_tracking.specs.WithoutMean.{without_mean}
use Rattle.sensitive_blocks.proofs.follower.Follower.new.Goals as goal

pub returns-clause-has_taken : goal.returns-clause-has_taken
returns-clause-has_taken c = λ x. record {
  within = omega arith;
  remover = c.new.ensures;
  lists = c.new-2.ensures.has_taken (without_mean x);
  count = c.new-2.ensures.count;
  clocks = record {
    slow_near = c.new-3.ensures.stands_for (tones Near x);
    slow_far = c.new-4.ensures.stands_for (tones Far x);
    fast_near = c.new-5.ensures.stands_for (tones Near x);
    slow_alone = c.new-6.ensures.stands_for (tones Alone x);
  };
}
