use Rattle.offset_slicers.proofs.Common.{refl}
use Rattle.offset_slicers.proofs.SlicerLemmas.{stands_empty}
use Rattle.offset_slicers.proofs.slicer.Slicer.skip.Goals as goal

pub returns-clause-stands_for : goal.returns-clause-stands_for
returns-clause-stands_for c =
    stands_empty c.self.inside.offset _ c.args.to c.self.inside.window c.new-self-inside.result refl
    c.new-self-inside.ensures.tone
