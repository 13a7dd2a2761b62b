use Rattle.hf_modem.proofs.OneList.{one_list}
use Rattle.hf_modem.proofs.laws.one_list_of_hf_candidates.Goals as goal

pub returns : goal.returns
returns c = one_list
