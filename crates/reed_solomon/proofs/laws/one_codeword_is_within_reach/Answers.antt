use Rattle.reed_solomon.proofs.DistanceLemmas.{one_within_reach}
use Rattle.reed_solomon.proofs.laws.one_codeword_is_within_reach.Goals as goal

pub returns : goal.returns
returns c = one_within_reach
