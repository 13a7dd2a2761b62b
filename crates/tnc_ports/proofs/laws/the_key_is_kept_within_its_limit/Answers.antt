use Rattle.tnc_ports.proofs.KeyLaws.{kept_within}
use Rattle.tnc_ports.proofs.laws.the_key_is_kept_within_its_limit.Goals as goal

pub returns : goal.returns
returns c = kept_within
