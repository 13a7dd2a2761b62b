use Rattle.slicer_bank.proofs.OneList.{one_list}
use Rattle.slicer_bank.proofs.laws.one_list_of_candidates.Goals as goal

pub returns : goal.returns
returns c = one_list
