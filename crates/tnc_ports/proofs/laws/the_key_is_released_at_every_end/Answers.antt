use Rattle.tnc_ports.proofs.KeyLaws.{ends_released}
use Rattle.tnc_ports.proofs.laws.the_key_is_released_at_every_end.Goals as goal

pub returns : goal.returns
returns c = ends_released
