use Rattle.keying.proofs.KeyLasts.{stays_keyed}
use Rattle.keying.proofs.laws.a_transmission_stays_keyed.Goals as goal

pub returns : goal.returns
returns c = stays_keyed
