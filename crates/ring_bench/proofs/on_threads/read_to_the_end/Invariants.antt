use Rattle.std.proofs.Common.{◌≡◌}
use Rattle.sample_ring.specs.Ends.{reader_ring}
use Rattle.ring_bench.proofs.on_threads.read_to_the_end.Given as goal

abbrev pub invariant-loop : goal.invariant-loop
invariant-loop g l =
    (goal.iterator-loop g).can_next l.iterator' × (goal.iterator-loop g).is_finite l.iterator' ×
    (reader_ring l.reader ≡ reader_ring l.initial.reader)
