use Rattle.keying.proofs.RulesAreSound.{sound_history}
use Rattle.keying.proofs.laws.the_key_has_a_limit.Goals as goal

pub returns : goal.returns
returns c = λ words calls. (sound_history words calls).lit
