use Rattle.sample_ring.proofs.Common.{ring_id, ring_len, listed}
use Rattle.sample_ring.proofs.Closing.{HasKept}
use Rattle.sample_ring.proofs.ring.Ring.close.Given as goal

abbrev pub invariant-loop-reader : goal.invariant-loop-reader
invariant-loop-reader l = HasKept (ring_id l.fn.self) (ring_len l.fn.self) (listed l.initial.history)
    l.fn.readers.items l.history l.reader-iterator.rest.items l.reader-iterator.rest.len
