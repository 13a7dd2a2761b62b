use Rattle.std.proofs.Common.{◌≡◌}
use Rattle.sample_ring.specs.Ends.{reader_ring}
use Rattle.signal_tests.proofs.tests.ring.worked.reads_items.Given as goal

abbrev pub invariant-loop-at : goal.invariant-loop-at
invariant-loop-at l = reader_ring l.reader ≡ reader_ring l.initial.reader
