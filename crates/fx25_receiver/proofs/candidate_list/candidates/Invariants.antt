-- The items so far as candidates.
use Rattle.fx25_receiver.proofs.Common.{◌≡◌, take}
use Rattle.std.specs.Prelude.{map}
use Rattle.fx25_receiver.specs.WithoutBlocks.{candidate_of}
use Rattle.fx25_receiver.proofs.candidate_list.candidates.Given as goal

abbrev pub invariant-loop-item : goal.invariant-loop-item
invariant-loop-item l = l.items.items ≡ map candidate_of (take l.item-index l.heard)
