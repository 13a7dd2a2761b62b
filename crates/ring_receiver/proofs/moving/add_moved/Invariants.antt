use Rattle.ring_receiver.proofs.Common.{moved}
use Rattle.ring_receiver.proofs.MovedLemmas.{HasMoved}
use Rattle.ring_receiver.proofs.moving.add_moved.Given as goal

abbrev pub invariant-loop-item : goal.invariant-loop-item
invariant-loop-item l = HasMoved (moved l.begin) l.initial.found.items l.found.items l.fn.heard.items l.yielded
    l.item-iterator.rest.items l.item-iterator.rest.len
