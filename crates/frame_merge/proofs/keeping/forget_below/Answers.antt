use Rattle.frame_merge.proofs.Common.{rules, nat_le}
use Rattle.std.proofs.lemmas.Fn.{filter_same}
use Rattle.frame_merge.proofs.keeping.forget_below.Goals as goal

pub returns : goal.returns
returns c = filter_same _ (λ item. nat_le c.args.position item.end) _ (λ x b f h. search rules)
    c.args.items.now.items c.retain.new.self.items c.retain.ensures.filtered
