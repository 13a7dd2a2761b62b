-- What stands after the last match.
use Rattle.channel_bench.proofs.Common.{◌∙◌, ap, drop, length, take_rest}
use Rattle.std.proofs.Common.{min}
use Rattle.std.proofs.lemmas.List.{drop_min, length-drop}
use Rattle.channel_bench.proofs.side.Side.unmatched.Goals as goal

pub returns-clause-frames : goal.returns-clause-frames
returns-clause-frames c =
    let self = c.args.self.now in
    take_rest c.deref.result.now c.min.result ∙ ap (drop c.min.result) c.deref.ensures.value
    ∙ ap (λ k. drop k self.towards.items) (c.min.ensures ∙ ap (min self.matched) (c.len.ensures ∙ self.towards.ok.0))
    ∙ drop_min self.matched self.towards.items

pub returns-clause-count : goal.returns-clause-count
returns-clause-count c =
    let self = c.args.self.now in
    ap length (returns-clause-frames c) ∙ length-drop self.matched self.towards.items
