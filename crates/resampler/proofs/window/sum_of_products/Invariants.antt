use Rattle.offset_slicers.proofs.Common.{◌≡◌, ◌≤◌, ◌*◌, unsigned_abs, take, sum_below, product_of}
use Rattle.std.specs.List.{sum_by}
use Rattle.resampler.proofs.window.sum_of_products.Given as goal

abbrev pub invariant-loop-i : goal.invariant-loop-i
invariant-loop-i l = record {
  so_far : l.sum ≡ sum_below (product_of l.window l.weights) l.i;
  bound : unsigned_abs l.sum ≤ 32768 * sum_by unsigned_abs (take l.i l.weights);
}
