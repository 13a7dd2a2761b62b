use Rattle.tone_tracking.proofs.Common.{◌≡◌, ◌+◌}
use Rattle.tone_tracking.specs.BlockLevels.{AreSmallBelow, sum_from}
use Rattle.tone_tracking.proofs.block_mean.slide.Given as goal

abbrev pub invariant-loop-place : goal.invariant-loop-place
invariant-loop-place l = record {
  sum : l.sum ≡ sum_from l.samples l.place;
  small : AreSmallBelow (l.place + 32) l.samples;
}
