use Rattle.std.proofs.Common.{◌≡◌, ◌≤◌, ◌*◌, unsigned_abs}
use Rattle.offset_slicers.specs.Decision.{sum_below}
use Rattle.tone_carrier.specs.HeardWindows.{sample_at}
use Rattle.tone_carrier.proofs.window_power.sum_of.Given as goal

abbrev pub invariant-loop-i : goal.invariant-loop-i
invariant-loop-i l = record {
  so_far : l.sum ≡ sum_below (sample_at l.window) l.i;
  bound : unsigned_abs l.sum ≤ 32768 * l.i;
}
