use Rattle.keying.proofs.Common.{history}
use Rattle.keying.proofs.RulesAreSound.{sound_history}
use Rattle.keying.proofs.Tails.{free_accepted}
use Rattle.keying.proofs.laws.a_free_radio_accepted_each_command.Goals as goal

pub returns : goal.returns
returns c = λ words calls free.
    free_accepted words (history words calls) (sound_history words calls) free
