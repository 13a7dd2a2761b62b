-- Nothing came to pass yet.
use Rattle.channel_bench.proofs.Common.{refl}
use Rattle.channel_bench.proofs.run.Run.new.Goals as goal

pub returns-clause-stands_for : goal.returns-clause-stands_for
returns-clause-stands_for c = record {
  words = refl;
  a = c.in_ok-a.ensures c.args.words c.config_of.ensures c.is_some-blocks.ensures refl;
  b = c.in_ok-b.ensures c.args.words c.config_of-2.ensures c.is_some-blocks.ensures refl;
  shared = c.new-3.ensures c.args.words refl;
  text_of_a = c.in_ok-text_of_a.ensures;
  text_of_b = c.in_ok-text_of_b.ensures;
  ticks = refl;
  closing = refl;
}
