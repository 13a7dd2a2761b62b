-- The items so far were added.
use Rattle.fx25_ring.proofs.PlacingLemmas.{HasPlaced}
use Rattle.fx25_ring.proofs.placing.place_all.Given as goal

abbrev pub invariant-loop-item : goal.invariant-loop-item
invariant-loop-item l = HasPlaced l.begin l.heard l.item-index l.fn.items.items l.items.items
