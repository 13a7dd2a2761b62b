use Rattle.block_receiver.proofs.MergedLemmas.{all_items}
use Rattle.slicer_bank.specs.Hearing.{hearing_of_eight}
use Rattle.slicer_bank.proofs.MergedLemmas.{is_hearing}
use Rattle.slicer_bank.proofs.laws.items_are_all.Goals as goal

pub returns : goal.returns
returns c = all_items hearing_of_eight is_hearing
