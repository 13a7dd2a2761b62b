use Rattle.keying.proofs.RulesAreSound.{sound_history}
use Rattle.keying.proofs.laws.commands_alternate.Goals as goal

pub returns : goal.returns
returns c = λ words calls. (sound_history words calls).alternate
