use Rattle.sensitive_receiver.proofs.MergedLemmas.{one_list}
use Rattle.sensitive_receiver.proofs.laws.one_list_of_all_lanes.Goals as goal

pub returns : goal.returns
returns c = one_list
