use Rattle.std.proofs.Common.{◌≡◌}
use Rattle.sample_ring.specs.Ends.{ring_id, writer_ring}
use Rattle.receiver_tests.proofs.tests.publishing.publish.Given as goal

abbrev pub invariant-loop-sample : goal.invariant-loop-sample
invariant-loop-sample g l = writer_ring l.writer ≡ ring_id l.fn.ring
