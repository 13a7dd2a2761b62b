use Rattle.slicer_bank.proofs.Common.{◌≡◌, vec_capacity}
use Rattle.slicer_bank.proofs.ReaderLemmas.{HaveLanes}
use Rattle.slicer_bank.proofs.ring_lanes.new_ring_lanes.Given as goal

abbrev pub invariant-loop-offset : goal.invariant-loop-offset
invariant-loop-offset l = HaveLanes l.fn.readers.items l.readers.items l.lanes.items l.detection l.offset
    × (vec_capacity l.readers ≡ vec_capacity l.fn.readers)
