use Rattle.std.proofs.Common.{◌≡◌, ◌*◌, ℤ, List, ◌++◌, length, take}
use Rattle.resampler.specs.Filtered.{interpolated}
use Rattle.resampler.specs.Held.{HasStuffed}
use Rattle.sound_rate.proofs.outgoing.feed_interpolator.Given as goal

abbrev pub invariant-loop-sample : goal.invariant-loop-sample
invariant-loop-sample l = record {
  so_far : (x : List ℤ) → HasStuffed l.initial.interpolator x
      → HasStuffed l.interpolator (x ++ take l.sample-index l.block)
      × (interpolated (x ++ take l.sample-index l.block) ≡ interpolated x ++ take l.count l.out);
  size : l.count ≡ 5 * l.sample-index;
  room : length l.out ≡ length l.initial.out;
}
