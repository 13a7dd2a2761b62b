use Rattle.keying.proofs.Common.{history}
use Rattle.keying.proofs.Tails.{short_sound, lingers_history}
use Rattle.keying.proofs.laws.the_key_follows_the_sound.Goals as goal

pub returns : goal.returns
returns c = λ words calls first.
    short_sound words (history words calls) first (lingers_history words calls)
