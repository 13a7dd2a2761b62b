use Rattle.std.proofs.Common.{◌≡◌}
use Rattle.signal_tests.proofs.tests.merger.put_all.Given as goal

abbrev pub invariant-loop-end : goal.invariant-loop-end
invariant-loop-end g l = l.merger.marks ≡ l.initial.merger.marks
