use Rattle.ring_receiver.proofs.Common.{vec_capacity, vec_len}
use Rattle.ring_receiver.proofs.ReaderLemmas.{HaveGoneBack}
use Rattle.ring_receiver.proofs.added_ring.AddedRing.finish.Given as goal

abbrev pub invariant-loop-other : goal.invariant-loop-other
invariant-loop-other l = HaveGoneBack l.fn.eight.items l.other-iterator.rest.items l.other-iterator.rest.len
    l.room.items (vec_len l.room) (vec_capacity l.room)
