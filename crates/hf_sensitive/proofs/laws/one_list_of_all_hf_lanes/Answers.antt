use Rattle.hf_sensitive.proofs.MergedLemmas.{one_list}
use Rattle.hf_sensitive.proofs.laws.one_list_of_all_hf_lanes.Goals as goal

pub returns : goal.returns
returns c = one_list
