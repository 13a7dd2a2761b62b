use Rattle.ring_receiver.proofs.Common.{arith, moved}
use Rattle.sensitive_receiver.specs.Found.{HasRoom}
use Rattle.ring_receiver.proofs.MovedLemmas.{moved_more, moved_all, moved_bounds, next_is_one}
use Rattle.ring_receiver.proofs.moving.add_moved.Goals as goal

pub overflow_add-begin : goal.overflow_add-begin
overflow_add-begin c =
    let room = next_is_one HasRoom (moved c.args.begin) c.args.found.now.items c.loop-item.found.items c.args.heard.items
    c.loop-item.yielded c.loop-item.item-iterator.rest.items c.next.new.self.rest.items
    c.loop-item.item-iterator.rest.len c.in-Some.item c.loop-item.invariant c.in-Some.ensures.steps.0
    c.requires.room in
    let end = room.end in
    let begin = c.requires.begin in
    omega arith

pub loop-item-preserved : goal.loop-item-preserved
loop-item-preserved c =
    moved_more (moved c.args.begin) c.args.found.now.items c.loop-item.found.items c.push.new.self.items c.args.heard.items
    c.loop-item.yielded c.loop-item.item-iterator.rest.items c.next.new.self.rest.items
    c.loop-item.item-iterator.rest.len c.next.new.self.rest.len c.in-Some.item c.loop-item.invariant
    c.in-Some.ensures.steps.0 c.in-Some.ensures.steps.1 c.in_ok-push.ensures.items

pub returns-clause-found : goal.returns-clause-found
returns-clause-found c =
    moved_all (moved c.args.begin) c.args.found.now.items c.loop-item.found.items c.args.heard.items c.loop-item.yielded
    c.loop-item.item-iterator.rest.items c.loop-item.item-iterator.rest.len c.loop-item.invariant
    c.in-None.ensures.steps.0

pub returns-clause-bounds : goal.returns-clause-bounds
returns-clause-bounds c = λ low from under late can.
    moved_bounds c.args.begin low from c.args.found.now.items c.loop-item.found.items c.args.heard.items c.requires.begin
    (moved_all (moved c.args.begin) c.args.found.now.items c.loop-item.found.items c.args.heard.items c.loop-item.yielded
    c.loop-item.item-iterator.rest.items c.loop-item.item-iterator.rest.len c.loop-item.invariant
    c.in-None.ensures.steps.0) c.requires.room under late can
