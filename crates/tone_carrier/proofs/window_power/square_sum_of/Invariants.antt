use Rattle.std.proofs.Common.{◌≡◌, ◌≤ℤ◌, ◌*◌, ◌^◌, pos}
use Rattle.offset_slicers.specs.Decision.{sum_below}
use Rattle.tone_carrier.specs.HeardWindows.{square_at}
use Rattle.tone_carrier.proofs.window_power.square_sum_of.Given as goal

abbrev pub invariant-loop-i : goal.invariant-loop-i
invariant-loop-i l = record {
  so_far : l.sum ≡ sum_below (square_at l.window) l.i;
  least : pos 0 ≤ℤ l.sum;
  most : l.sum ≤ℤ pos (2 ^ 30 * l.i);
}
