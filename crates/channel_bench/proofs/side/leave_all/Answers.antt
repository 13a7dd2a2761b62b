-- One connection after another.
use Rattle.channel_bench.proofs.Common.{◌+◌, drop, sym, ap, ◌∙◌, drop_more, without_ids}
use Rattle.channel_bench.proofs.side.leave_all.Goals as goal

pub loop-id-preserved : goal.loop-id-preserved
loop-id-preserved c =
    let closed = c.args.closed.now in
    let i = c.loop-id.id-index in
    ap (without_ids (drop (i + 1) closed)) c.leave.ensures
    ∙ sym (ap (λ xs. without_ids xs c.loop-id.there.items) (drop_more closed i 0 c.loop-id-test.true))
    ∙ c.loop-id.invariant
