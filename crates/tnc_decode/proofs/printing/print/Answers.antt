use Rattle.tnc_decode.proofs.Common.{arith, common_steps}
use Rattle.tnc_decode.proofs.PrintingLemmas.{print_next, print_end}
use Rattle.tnc_decode.proofs.printing.print.Goals as goal

pub loop-item-preserved : goal.loop-item-preserved
loop-item-preserved c =
    let next = print_next c.args.form c.args.items.now c.loop-item.item-index c.item-item.result c.loop-item-test.true
    c.item-item.is in
    let pushed = c.in_ok-push_frame.ensures in
    let octets = c.as_slice.ensures.list in
    let so_far = c.loop-item.invariant in
    grind (arith, common_steps)

pub returns : goal.returns
returns c = let e = print_end c.args.form c.args.items.now c.loop-item.item-index c.loop-item-test.false in let so_far =
    c.loop-item.invariant in grind (arith, common_steps)
