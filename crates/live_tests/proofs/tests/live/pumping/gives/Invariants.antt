use Rattle.std.proofs.Common.{◌≡◌}
use Rattle.sample_ring.specs.Ends.{ring_id, reader_ring}
use Rattle.live_tests.proofs.tests.live.pumping.gives.Given as goal

abbrev pub invariant-loop-sample : goal.invariant-loop-sample
invariant-loop-sample l = reader_ring l.reader ≡ ring_id l.ring
