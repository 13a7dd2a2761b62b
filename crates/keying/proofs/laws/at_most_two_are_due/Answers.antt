use Rattle.keying.proofs.RulesAreSound.{sound_history}
use Rattle.keying.proofs.laws.at_most_two_are_due.Goals as goal

pub returns : goal.returns
returns c = λ words calls. (sound_history words calls).two
