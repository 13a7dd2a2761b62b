use Rattle.std.proofs.Common.{◌≡◌}
use Rattle.signal_tests.proofs.tests.tracking.tones_and_readings_in_noise_are_those_of_a_second_program.Given as goal

abbrev pub invariant-loop-index : goal.invariant-loop-index
invariant-loop-index g l = l.lists.count ≡ l.index
