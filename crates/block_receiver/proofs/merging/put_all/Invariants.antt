use Rattle.block_receiver.proofs.PuttingLemmas.{HasPut}
use Rattle.block_receiver.proofs.merging.put_all.Given as goal

abbrev pub invariant-loop-item : goal.invariant-loop-item
invariant-loop-item l = HasPut l.initial.merger l.merger l.fn.items.items l.yielded l.item-iterator.rest.items
    l.item-iterator.rest.len
