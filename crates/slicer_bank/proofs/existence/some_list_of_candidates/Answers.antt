use Rattle.slicer_bank.proofs.SomeList.{some_list}
use Rattle.slicer_bank.proofs.existence.some_list_of_candidates.Goals as goal

pub returns : goal.returns
returns c = some_list
