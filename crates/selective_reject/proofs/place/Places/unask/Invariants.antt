use Rattle.std.proofs.Common.{◌≡◌}
use Rattle.selective_reject.proofs.PlaceLemmas.{unasked_to}
use Rattle.selective_reject.proofs.place.Places.unask.Given as goal

abbrev pub invariant-loop-place : goal.invariant-loop-place
invariant-loop-place l = l.self ≡ unasked_to l.fn.self l.place
