use Rattle.slicer_bank.proofs.RingMergingLemmas.{nothing_merged}
use Rattle.slicer_bank.proofs.ring_merging.nothing_is_merged.Goals as goal

pub returns : goal.returns
returns c = nothing_merged
