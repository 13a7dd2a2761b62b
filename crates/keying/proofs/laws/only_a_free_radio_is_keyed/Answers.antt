use Rattle.keying.proofs.Common.{history}
use Rattle.keying.proofs.Tails.{keys_free}
use Rattle.keying.proofs.laws.only_a_free_radio_is_keyed.Goals as goal

pub returns : goal.returns
returns c = λ words calls sounds. keys_free words (history words calls) sounds
