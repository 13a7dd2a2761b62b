use Rattle.std.proofs.Common.{◌≡◌}
use Rattle.sample_ring.specs.Ends.{writer_ring}
use Rattle.signal_tests.proofs.tests.ring.published.publish_to.Given as goal

abbrev pub invariant-loop-position : goal.invariant-loop-position
invariant-loop-position l = writer_ring l.writer ≡ writer_ring l.initial.writer
