use Rattle.hf_modem.proofs.SomeList.{some_list}
use Rattle.hf_modem.proofs.laws.some_list_of_hf_candidates.Goals as goal

pub returns : goal.returns
returns c = some_list
