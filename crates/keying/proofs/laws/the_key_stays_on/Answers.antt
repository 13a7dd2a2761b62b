use Rattle.keying.proofs.Common.{history}
use Rattle.keying.proofs.Tails.{stays_on}
use Rattle.keying.proofs.laws.the_key_stays_on.Goals as goal

pub returns : goal.returns
returns c = λ words calls sounds. stays_on words (history words calls) sounds
