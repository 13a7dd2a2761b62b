use Rattle.reed_solomon.proofs.Common.{◌≡◌, ◌≤◌, take, count_true}
use Rattle.reed_solomon.proofs.unknown.count_true.Given as goal

abbrev pub invariant-loop-flag : goal.invariant-loop-flag
invariant-loop-flag l = record {
  value : l.count ≡ count_true (take l.flag-index l.flags);
  most : l.count ≤ l.flag-index;
}
