use Rattle.hf_tracking.proofs.Common.{◌≡◌, ◌≤◌, ◌+◌, ◌*◌, ◌*ℤ◌, pos, unsigned_abs, sum_below, fine_weight}
use Rattle.std.specs.Prelude.{slice_index_or}
use Rattle.hf_tracking.proofs.correlation.sum_of_products.Given as goal

abbrev pub invariant-loop-i : goal.invariant-loop-i
invariant-loop-i l = record {
  so_far : l.sum ≡ sum_below (λ i. slice_index_or l.window i (pos 0) *ℤ fine_weight (l.begin + i * l.step)) l.i;
  bound : unsigned_abs l.sum ≤ 3276800 * l.i;
}
