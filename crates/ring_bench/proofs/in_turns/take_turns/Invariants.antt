use Rattle.std.proofs.Common.{◌≡◌, All}
use Rattle.sample_ring.specs.Ends.{ring_id, writer_ring, reader_ring}
use Rattle.ring_bench.proofs.in_turns.take_turns.Given as goal

abbrev pub invariant-loop-block : goal.invariant-loop-block
invariant-loop-block g l = (writer_ring l.writer ≡ ring_id l.ring) × All (λ reader. reader_ring reader ≡ ring_id l.ring)
    l.readers
