use Rattle.hf_sensitive.proofs.SomeList.{some_list}
use Rattle.hf_sensitive.proofs.laws.some_list_of_all_hf_lanes.Goals as goal

pub returns : goal.returns
returns c = some_list
