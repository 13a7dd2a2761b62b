use Rattle.agwpe_client.proofs.DoneLemmas.{done_prints}
use Rattle.agwpe_client.proofs.laws.done_prints_its_data.Goals as goal

pub returns : goal.returns
returns c = done_prints
