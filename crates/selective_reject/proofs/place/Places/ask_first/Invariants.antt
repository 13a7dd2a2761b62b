use Rattle.std.proofs.Common.{◌≡◌, ◌+◌, ◌%◌, ◌≤◌, map}
use Rattle.arrayvec.specs.ArrayVec.{array_vec_len}
use Rattle.selective_reject.specs.Places.{missing, asked}
use Rattle.selective_reject.proofs.place.Places.ask_first.Given as goal

abbrev pub invariant-loop-place : goal.invariant-loop-place
invariant-loop-place l = record {
  places : l.self ≡ asked l.fn.self l.place;
  numbers : l.numbers.items ≡ map (λ k. (l.vr + k) % l.modulus) (missing l.fn.self l.place);
  room : array_vec_len l.numbers ≤ l.place;
}
