use Rattle.tone_tracking.proofs.Common.{◌≡◌, ◌+◌, ◌<◌, ◌≤◌, ℕ, ℤ, get_or, length, All, unsigned_abs}
use Rattle.tone_tracking.specs.BlockLevels.{AreSmallBelow, level_at, sum_from}
use Rattle.tone_tracking.proofs.block_mean.write_levels.Given as goal

abbrev pub invariant-loop-place : goal.invariant-loop-place
invariant-loop-place l = record {
  sum : l.sum ≡ sum_from l.samples l.place;
  samples : AreSmallBelow (l.place + 32) l.samples;
  length : length l.levels ≡ length l.initial.levels;
  same : (i : ℕ) (d : ℤ) → i < l.first → get_or l.levels i d ≡ get_or l.initial.levels i d;
  made : (i : ℕ) (d : ℤ) → l.from + i < l.place → get_or l.levels (l.first + i) d ≡ level_at l.samples (l.from + i);
  small : All (λ level. unsigned_abs level ≤ 262144) l.levels;
}
