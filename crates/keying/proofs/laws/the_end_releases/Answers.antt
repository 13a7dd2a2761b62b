use Rattle.keying.proofs.Common.{history}
use Rattle.keying.proofs.RulesAreSound.{sound_history}
use Rattle.keying.proofs.ToldEnds.{closed_off}
use Rattle.keying.proofs.laws.the_end_releases.Goals as goal

pub returns : goal.returns
returns c = λ words calls now octets end.
    closed_off words (history words calls) now octets end (sound_history words calls)
