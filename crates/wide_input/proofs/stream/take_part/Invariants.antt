use Rattle.wide_input.proofs.Common.{◌≡◌, ◌++◌, take, stream, next_skipped}
use Rattle.wide_input.proofs.stream.take_part.Given as goal

abbrev pub invariant-loop-sample : goal.invariant-loop-sample
invariant-loop-sample l = record {
  part : l.part.items ≡ l.initial.part.items ++ stream l.skipped (take l.sample-index l.block);
  left : l.left ≡ next_skipped l.skipped (take l.sample-index l.block);
}
