use Rattle.std.proofs.Common.{◌≡◌}
use Rattle.signal_tests.proofs.tests.hf_tones.check.Given as goal

abbrev pub invariant-loop-index : goal.invariant-loop-index
invariant-loop-index g l = l.tones.count ≡ l.index
