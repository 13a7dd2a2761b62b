-- None of those seen so far is repeated.
use Rattle.fx25_receiver.proofs.Common.{◌≡◌, false, list_any, repeats, take}
use Rattle.fx25_receiver.proofs.merging.is_repeated.Given as goal

abbrev pub invariant-loop-other : goal.invariant-loop-other
invariant-loop-other l = list_any (repeats l.item) (take l.other-index l.earlier) ≡ false
