use Rattle.std.proofs.Common.{◌≡◌}
use Rattle.sample_ring.specs.Ends.{reader_ring}
use Rattle.ring_bench.proofs.in_turns.sum_of_next.Given as goal

abbrev pub invariant-loop : goal.invariant-loop
invariant-loop l = reader_ring l.reader ≡ reader_ring l.initial.reader
