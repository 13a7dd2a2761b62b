use Rattle.std.proofs.Common.{◌≡◌, ◌+◌, ◌++◌, ◌∷◌, length, take}
use Rattle.arrayvec.specs.ArrayVec.{array_vec_len}
use Rattle.selective_reject.proofs.asked_again.joined.Given as goal

abbrev pub invariant-loop-place : goal.invariant-loop-place
invariant-loop-place l = record {
  numbers : l.numbers.items ≡ l.fn.first.items ++ l.number ∷ take l.place l.fn.rest.items;
  room : array_vec_len l.numbers ≡ length l.fn.first.items + 1 + l.place;
}
