use Rattle.std.proofs.Common.{◌≡◌, []}
use Rattle.selective_reject.specs.Places.{missing}
use Rattle.selective_reject.proofs.place.Places.first_missing.Given as goal

abbrev pub invariant-loop-place : goal.invariant-loop-place
invariant-loop-place l = missing l.fn.self l.place ≡ []
