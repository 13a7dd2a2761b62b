use Rattle.resampler.proofs.Common.{◌≡◌, length, take}
use Rattle.resampler.specs.Line.{each_fifth}
use Rattle.resampler.proofs.line.filter_each_fifth.Given as goal

abbrev pub invariant-loop-i : goal.invariant-loop-i
invariant-loop-i l = record {
  so_far : take l.i l.out ≡ each_fifth l.line l.first l.i;
  room : length l.out ≡ length l.initial.out;
}
