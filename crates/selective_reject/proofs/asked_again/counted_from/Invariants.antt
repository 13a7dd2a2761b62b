use Rattle.std.proofs.Common.{◌≡◌, ◌≤◌, take}
use Rattle.arrayvec.specs.ArrayVec.{array_vec_len}
use Rattle.selective_reject.specs.Again.{numbers_from}
use Rattle.selective_reject.proofs.asked_again.counted_from.Given as goal

abbrev pub invariant-loop-place : goal.invariant-loop-place
invariant-loop-place l = record {
  kept : l.kept.items ≡ numbers_from l.count (take l.place l.fn.numbers.items);
  room : array_vec_len l.kept ≤ l.place;
}
