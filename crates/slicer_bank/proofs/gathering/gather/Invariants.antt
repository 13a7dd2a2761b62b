use Rattle.slicer_bank.proofs.Common.{◌≡◌, take, flat_map}
use Rattle.slicer_bank.proofs.GatheringLemmas.{Visited}
use Rattle.slicer_bank.proofs.BankGatheringLemmas.{GaveHeard, heard_by}
use Rattle.slicer_bank.proofs.gathering.gather.Given as goal

abbrev pub invariant-loop-index : goal.invariant-loop-index
invariant-loop-index l = Visited GaveHeard l.initial.lanes l.lanes l.index
    × (l.found.items ≡ flat_map heard_by (take l.index l.initial.lanes))
