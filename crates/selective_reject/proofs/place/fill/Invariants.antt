use Rattle.std.proofs.Common.{◌≡◌, replicate}
use Rattle.selective_reject.specs.Places.{empty_place}
use Rattle.selective_reject.proofs.place.fill.Given as goal

abbrev pub invariant-loop-place : goal.invariant-loop-place
invariant-loop-place l = (l.places.items ≡ replicate l._place empty_place) × (l.places.capacity ≡ l.fn.places.capacity)
