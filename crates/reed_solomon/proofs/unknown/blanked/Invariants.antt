use Rattle.reed_solomon.proofs.Common.{◌≡◌, take, length, blanked}
use Rattle.reed_solomon.proofs.unknown.blanked.Given as goal

abbrev pub invariant-loop-i : goal.invariant-loop-i
invariant-loop-i l = record {
  items : l.blanked.items ≡ take l.i (blanked l.unknown l.word);
  count : length l.blanked.items ≡ l.i;
}
