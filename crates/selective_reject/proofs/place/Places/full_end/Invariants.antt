use Rattle.std.proofs.Common.{◌≡◌, ◌≤◌, take}
use Rattle.selective_reject.specs.Places.{full_end}
use Rattle.selective_reject.proofs.place.Places.full_end.Given as goal

abbrev pub invariant-loop-place : goal.invariant-loop-place
invariant-loop-place l = record {
  end : l.end ≡ full_end (take l.place l.fn.self);
  within : l.end ≤ l.place;
}
