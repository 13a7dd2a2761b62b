use Rattle.link_world.proofs.Common.{◌∙◌, drop, rules, tests, InFlight}
use Rattle.std.proofs.lemmas.List.Sums.{length-filter}
use Rattle.std.proofs.lemmas.Iterator.Adapters.{YieldsList-from_skip}
use Rattle.std.proofs.lemmas.Iterator.Consumers.{YieldsList-at, YieldsList-from_deque, YieldsList-from_filter}
use Rattle.std.proofs.lemmas.Iterator.Consumers.{count_from_yields_List}
use Rattle.link_world.proofs.side.Side.answering.Goals as goal

pub returns : goal.returns
returns c =
    count_from_yields_List c.filter.result c.count.result c.count.ensures.ran
    (YieldsList-from_filter _ (λ (f : InFlight). f.answers)
    (YieldsList-at c.filter.ensures.source
    (YieldsList-from_skip c.args.heard
    (YieldsList-at c.skip.ensures.source (YieldsList-from_deque c.args.self.now.towards.items c.iter.ensures.rest))
    c.skip.ensures.count))
    c.filter.ensures.closure (λ x r q k. search (rules, tests)))
    ∙ length-filter (λ (f : InFlight). f.answers) (drop c.args.heard c.args.self.now.towards.items)
