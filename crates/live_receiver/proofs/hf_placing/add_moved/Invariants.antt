use Rattle.live_receiver.proofs.Common.{moved_added}
use Rattle.ring_receiver.proofs.MovedLemmas.{HasMoved}
use Rattle.live_receiver.proofs.hf_placing.add_moved.Given as goal

abbrev pub invariant-loop-item : goal.invariant-loop-item
invariant-loop-item l = HasMoved (moved_added l.begin) l.initial.items.items l.items.items l.fn.heard.items l.yielded
    l.item-iterator.rest.items l.item-iterator.rest.len
