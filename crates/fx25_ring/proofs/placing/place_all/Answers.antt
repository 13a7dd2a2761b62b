use Rattle.fx25_ring.proofs.PlacingLemmas.{placed_none, placed_more, placed_all}
use Rattle.fx25_ring.proofs.placing.place_all.Goals as goal

pub loop-item-init : goal.loop-item-init
loop-item-init c = placed_none c.args.begin c.args.heard.now c.args.items.now.items

pub loop-item-preserved : goal.loop-item-preserved
loop-item-preserved c =
    placed_more c.args.begin c.args.heard.now c.loop-item.item-index c.args.items.now.items c.loop-item.items.items _
    c.item-item.result _ c.loop-item.invariant c.loop-item-test.true c.item-item.is c.in_ok-place.ensures
    c.in_ok-push.ensures.items

pub returns : goal.returns
returns c =
    placed_all c.args.begin c.args.heard.now c.loop-item.item-index c.args.items.now.items c.loop-item.items.items
    c.loop-item.invariant c.loop-item-test.false
