use Rattle.std.proofs.Common.{◌≡◌, All, length}
use Rattle.sample_ring.specs.Ends.{ring_id, reader_ring}
use Rattle.ring_bench.proofs.in_turns.read_by_each.Given as goal

abbrev pub invariant-loop-i : goal.invariant-loop-i
invariant-loop-i g l = (length l.readers ≡ l.i-end) × All (λ reader. reader_ring reader ≡ ring_id l.ring) l.readers
