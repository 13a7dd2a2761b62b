use Rattle.keying.proofs.Common.{history}
use Rattle.keying.proofs.Tails.{no_limit, lingers_history}
use Rattle.keying.proofs.laws.short_sound_meets_no_limit.Goals as goal

pub returns : goal.returns
returns c = λ words calls first sounds. no_limit words (history words calls) first sounds (lingers_history words calls)
