use Rattle.tnc_call.proofs.FaultlessLemmas.{faultless}
use Rattle.tnc_call.proofs.laws.faultless_ends.Goals as goal

pub returns : goal.returns
returns c = record { ends = faultless }
