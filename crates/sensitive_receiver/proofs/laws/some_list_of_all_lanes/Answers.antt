use Rattle.sensitive_receiver.proofs.SomeList.{some_list}
use Rattle.sensitive_receiver.proofs.laws.some_list_of_all_lanes.Goals as goal

pub returns : goal.returns
returns c = some_list
