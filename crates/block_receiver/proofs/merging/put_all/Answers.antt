use Rattle.std.proofs.Common.{subst, ◌++◌}
use Rattle.frame_merge.specs.Held.{StandsFor}
use Rattle.block_receiver.proofs.PuttingLemmas.{has_put_more, has_put_all}
use Rattle.block_receiver.proofs.merging.put_all.Goals as goal

pub loop-item-preserved : goal.loop-item-preserved
loop-item-preserved c =
    has_put_more c.args.merger.now c.loop-item.merger c.put_in_time.new.self c.args.items.items c.loop-item.yielded
    c.loop-item.item-iterator.rest.items c.next.new.self.rest.items
    c.loop-item.item-iterator.rest.len c.next.new.self.rest.len c.in-Some.item c.loop-item.invariant
    c.in-Some.ensures.steps.0 c.in-Some.ensures.steps.1 c.in_ok-put_in_time.ensures.marks
    c.in_ok-put_in_time.ensures.ok

pub returns-clause-stands_for : goal.returns-clause-stands_for
returns-clause-stands_for c = λ puts given h.
    subst (λ t. StandsFor c.loop-item.merger (puts ++ t) given)
    (has_put_all c.args.merger.now c.loop-item.merger c.args.items.items c.loop-item.yielded
    c.loop-item.item-iterator.rest.items c.loop-item.item-iterator.rest.len c.loop-item.invariant
    c.in-None.ensures.steps.0)
    (c.loop-item.invariant.stands_for puts given h)
