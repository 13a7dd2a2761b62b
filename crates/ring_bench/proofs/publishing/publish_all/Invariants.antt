use Rattle.std.proofs.Common.{◌≡◌}
use Rattle.sample_ring.specs.Ends.{writer_ring}
use Rattle.ring_bench.proofs.publishing.publish_all.Given as goal

abbrev pub invariant-loop-i : goal.invariant-loop-i
invariant-loop-i l = writer_ring l.writer ≡ writer_ring l.initial.writer
