use Rattle.keying.proofs.Common.{history}
use Rattle.keying.proofs.RulesAreSound.{sound_history}
use Rattle.keying.proofs.ToldEnds.{over_done}
use Rattle.keying.proofs.laws.the_end_owes_nothing.Goals as goal

pub returns : goal.returns
returns c = λ words calls now octets end.
    over_done words (history words calls) now octets end (sound_history words calls)
