use Rattle.agwpe_client.proofs.PrintLemmas.{prints_its_data_holds}
use Rattle.agwpe_client.proofs.laws.prints_its_data.Goals as goal

pub returns : goal.returns
returns c = prints_its_data_holds
