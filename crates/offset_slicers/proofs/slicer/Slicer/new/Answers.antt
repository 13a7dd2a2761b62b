use Rattle.offset_slicers.proofs.Common.{arith}
use Rattle.offset_slicers.proofs.SlicerLemmas.{stands_empty}
use Rattle.offset_slicers.proofs.slicer.Slicer.new.Goals as goal

pub returns-clause-stands_for : goal.returns-clause-stands_for
returns-clause-stands_for c =
    let same = c.from.ensures in
    let first = c.from-2.ensures in
    stands_empty c.from.result c.from-2.result 0 _ c.new.result (omega arith) c.new.ensures.tone
