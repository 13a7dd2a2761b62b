use Rattle.slicer_bank.proofs.Common.{◌+◌, arith, sym, subst}
use Rattle.slicer_bank.proofs.FreshLanes.{AreFresh, fresh_more, stand_fresh}
use Rattle.slicer_bank.proofs.lane.new_lanes.Goals as goal

pub loop-preserved : goal.loop-preserved
loop-preserved c =
    subst (AreFresh c.args.flags (c.loop.counter + 1)) (sym c.in_ok-push.ensures.items)
    (fresh_more c.args.flags c.loop.counter c.loop.lanes.items c.listening.result c.loop.invariant
    c.listening.ensures.stands_for c.listening.ensures.asks)

pub returns-clause-stand_for : goal.returns-clause-stand_for
returns-clause-stand_for c = stand_fresh c.args.flags c.loop.counter c.loop.lanes.items (omega arith) c.loop.invariant
