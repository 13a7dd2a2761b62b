use Rattle.block_receiver.proofs.MergedLemmas.{join}
use Rattle.slicer_bank.specs.Hearing.{hearing_of_eight}
use Rattle.slicer_bank.proofs.MergedLemmas.{is_hearing}
use Rattle.slicer_bank.proofs.laws.items_join.Goals as goal

pub returns : goal.returns
returns c = join hearing_of_eight is_hearing
