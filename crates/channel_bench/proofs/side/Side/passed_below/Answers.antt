-- Those below the last match, and those past it that a mark has passed.
use Rattle.channel_bench.proofs.Common.{◌∙◌, ◌+◌, ap, drop, count_by, nat_le, mark_of, SentAt}
use Rattle.channel_bench.proofs.side.Side.passed_below.Goals as goal

pub returns : goal.returns
returns c = λ end side h.
    let self = c.args.self.now in
    let mark = c.mark.ensures side.blocks side.samples h.ear in
    let counted = c.count_passed.ensures.count
    ∙ ap (λ m. count_by (λ (sent : SentAt). nat_le (sent.end + 16) m) c.unmatched.result.now) mark
    ∙ ap (count_by (λ (sent : SentAt). nat_le (sent.end + 16) (mark_of side.samples)))
    (c.unmatched.ensures.frames ∙ ap (drop self.matched) h.towards) in
    ap (λ k. self.matched + k) counted
    ∙ ap (λ m. m + count_by (λ (sent : SentAt). nat_le (sent.end + 16) (mark_of side.samples)) (drop m side.towards))
    h.matched
