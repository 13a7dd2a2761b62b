use Rattle.std.proofs.Common.{◌≡◌, ◌≤◌, nat_lt, filter, take}
use Rattle.arrayvec.specs.ArrayVec.{array_vec_len}
use Rattle.selective_reject.proofs.asked_again.above.Given as goal

abbrev pub invariant-loop-place : goal.invariant-loop-place
invariant-loop-place l = record {
  kept : l.kept.items ≡ filter (nat_lt l.number) (take l.place l.fn.numbers.items);
  room : array_vec_len l.kept ≤ l.place;
}
