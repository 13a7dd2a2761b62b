use Rattle.std.proofs.Common.{◌≡◌}
use Rattle.sample_ring.specs.Ends.{reader_ring}
use Rattle.signal_tests.proofs.tests.ring.race.read_both.Given as goal

abbrev pub invariant-loop : goal.invariant-loop
invariant-loop l = (reader_ring l.first.reader ≡ reader_ring l.initial.first.reader)
    × (reader_ring l.second.reader ≡ reader_ring l.initial.second.reader)
