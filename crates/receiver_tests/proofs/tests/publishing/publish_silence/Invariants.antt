use Rattle.std.proofs.Common.{◌≡◌}
use Rattle.sample_ring.specs.Ends.{ring_id, writer_ring}
use Rattle.receiver_tests.proofs.tests.publishing.publish_silence.Given as goal

abbrev pub invariant-loop : goal.invariant-loop
invariant-loop g l = writer_ring l.writer ≡ ring_id l.fn.ring
