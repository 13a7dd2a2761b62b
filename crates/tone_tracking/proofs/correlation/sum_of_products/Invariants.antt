use Rattle.std.proofs.Common.{take}
use Rattle.tone_tracking.proofs.Common.{◌≡◌, ◌≤◌, ◌*◌, unsigned_abs, sum_below, product_of}
use Rattle.std.specs.List.{sum_by}
use Rattle.tone_tracking.proofs.correlation.sum_of_products.Given as goal

abbrev pub invariant-loop-i : goal.invariant-loop-i
invariant-loop-i l = record {
  so_far : l.sum ≡ sum_below (product_of l.window l.weights) l.i;
  bound : unsigned_abs l.sum ≤ 262144 * sum_by unsigned_abs (take l.i l.weights);
}
