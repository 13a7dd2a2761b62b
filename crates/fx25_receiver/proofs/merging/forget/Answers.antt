use Rattle.fx25_receiver.proofs.Common.{◌≡◌, ◌+◌, nat_le, not_past, reach, rules}
use Rattle.std.proofs.lemmas.Fn.{filter_same}
use Rattle.fx25_receiver.proofs.MergingLemmas.{keeps_fewer}
use Rattle.fx25_receiver.proofs.merging.forget.Goals as goal

pub returns : goal.returns
returns c = λ heard was le keeps.
    let fewer : c.retain.new.self.items ≡ not_past c.args.count c.args.kept.now.items =
    filter_same _ (λ item. nat_le c.args.count (item.end + reach)) _ (λ x b f h. search rules)
    c.args.kept.now.items c.retain.new.self.items c.retain.ensures.filtered in
    keeps_fewer c.args.kept.now.items c.retain.new.self.items was c.args.count heard le keeps fewer
