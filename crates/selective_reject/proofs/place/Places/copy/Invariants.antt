use Rattle.std.proofs.Common.{◌≡◌, take}
use Rattle.selective_reject.proofs.place.Places.copy.Given as goal

abbrev pub invariant-loop-place : goal.invariant-loop-place
invariant-loop-place l = (l.places.items ≡ take l.place l.fn.self) × (l.places.capacity ≡ 127)
