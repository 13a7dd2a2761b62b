use Rattle.keying.proofs.Common.{history}
use Rattle.keying.proofs.RulesAreSound.{sound_history}
use Rattle.keying.proofs.KeyLasts.{call_tells}
use Rattle.keying.proofs.laws.an_end_of_the_key_is_told.Goals as goal

pub returns : goal.returns
returns c = λ words calls call.
    call_tells words call (history words calls) (sound_history words calls)
