use Rattle.tnc_loop.proofs.Common.{arith}
use Rattle.std.proofs.lemmas.Grind.{common_steps}
use Rattle.tnc_loop.proofs.SummaryLemmas.{octets_next, octets_end}
use Rattle.tnc_loop.proofs.summing.octets_of.Goals as goal

pub loop-item-preserved : goal.loop-item-preserved
loop-item-preserved c =
    let next = octets_next c.args.heard.now c.loop-item.item-index c.item-item.result c.loop-item-test.true
    c.item-item.is in
    let pushed = c.in_ok-extend_from_slice.ensures.items in
    let octets = c.as_slice.ensures.list in
    let so_far = c.loop-item.invariant in
    grind (arith, common_steps)

pub returns : goal.returns
returns c = let e = octets_end c.args.heard.now c.loop-item.item-index c.loop-item-test.false in let so_far =
    c.loop-item.invariant in grind (arith, common_steps)
