use Rattle.resampler.proofs.Common.{◌≡◌, ◌≤◌, ℤ, List, ◌++◌, length, take, settled, StandsFor}
use Rattle.resampler.proofs.feeding.feed_low_pass.Given as goal

abbrev pub invariant-loop-sample : goal.invariant-loop-sample
invariant-loop-sample l = record {
  so_far : (x : List ℤ) → StandsFor l.initial.filter x
      → StandsFor l.filter (x ++ take l.sample-index l.block)
      × (settled (x ++ take l.sample-index l.block) ≡ settled x ++ take l.count l.out);
  few : l.count ≤ l.sample-index;
  room : length l.out ≡ length l.initial.out;
}
