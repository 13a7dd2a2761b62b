use Rattle.reed_solomon.proofs.Common.{◌≡◌, take, length, marks}
use Rattle.reed_solomon.proofs.unknown.marks.Given as goal

abbrev pub invariant-loop-flag : goal.invariant-loop-flag
invariant-loop-flag l = record {
  items : l.marks.items ≡ take l.flag-index (marks l.unknown);
  count : length l.marks.items ≡ l.flag-index;
}
