use Rattle.live_receiver.proofs.Common.{arith, moved_added}
use Rattle.hf_sensitive.specs.Found.{CanBePut}
use Rattle.ring_receiver.proofs.MovedLemmas.{moved_all, moved_more, next_is_one}
use Rattle.live_receiver.proofs.hf_placing.add_moved.Goals as goal

pub overflow_mul-item : goal.overflow_mul-item
overflow_mul-item c =
    let can = next_is_one CanBePut (moved_added c.args.begin) c.args.items.now.items c.loop-item.items.items c.args.heard.items
    c.loop-item.yielded c.loop-item.item-iterator.rest.items c.next.new.self.rest.items
    c.loop-item.item-iterator.rest.len c.in-Some.item c.loop-item.invariant c.in-Some.ensures.steps.0
    c.requires.heard in
    let end = can.end in
    omega arith

pub overflow_add-begin : goal.overflow_add-begin
overflow_add-begin c =
    let can = next_is_one CanBePut (moved_added c.args.begin) c.args.items.now.items c.loop-item.items.items c.args.heard.items
    c.loop-item.yielded c.loop-item.item-iterator.rest.items c.next.new.self.rest.items
    c.loop-item.item-iterator.rest.len c.in-Some.item c.loop-item.invariant c.in-Some.ensures.steps.0
    c.requires.heard in
    let end = can.end in
    let begin = c.requires.begin in
    omega arith

pub loop-item-preserved : goal.loop-item-preserved
loop-item-preserved c =
    moved_more (moved_added c.args.begin) c.args.items.now.items c.loop-item.items.items c.push.new.self.items c.args.heard.items
    c.loop-item.yielded c.loop-item.item-iterator.rest.items c.next.new.self.rest.items
    c.loop-item.item-iterator.rest.len c.next.new.self.rest.len c.in-Some.item c.loop-item.invariant
    c.in-Some.ensures.steps.0 c.in-Some.ensures.steps.1 c.in_ok-push.ensures.items

pub returns : goal.returns
returns c =
    moved_all (moved_added c.args.begin) c.args.items.now.items c.loop-item.items.items c.args.heard.items c.loop-item.yielded
    c.loop-item.item-iterator.rest.items c.loop-item.item-iterator.rest.len c.loop-item.invariant
    c.in-None.ensures.steps.0
