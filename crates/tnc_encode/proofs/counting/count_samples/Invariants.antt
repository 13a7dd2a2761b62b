-- The frames so far.
use Rattle.tnc_encode.proofs.Common.{◌≡◌, ◌≤◌, ◌^◌, length, take}
use Rattle.std.proofs.Common.{◌*◌}
use Rattle.tnc_encode.proofs.CountingLemmas.{own_samples}
use Rattle.tnc_encode.proofs.counting.count_samples.Given as goal

abbrev pub invariant-loop-frame : goal.invariant-loop-frame
invariant-loop-frame l = record {
  counted : l.count ≡ length (own_samples l.fn.words (take l.frame-index l.frames));
  bound : l.count ≤ l.frame-index * 2 ^ 64;
}
