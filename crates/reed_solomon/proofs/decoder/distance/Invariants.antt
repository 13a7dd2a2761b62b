use Rattle.reed_solomon.proofs.Common.{◌≡◌, ◌≤◌, take, distance}
use Rattle.reed_solomon.proofs.decoder.distance.Given as goal

abbrev pub invariant-loop-i : goal.invariant-loop-i
invariant-loop-i l = record {
  value : l.count ≡ distance (take l.i l.word) (take l.i l.other);
  most : l.count ≤ l.i;
}
