use Rattle.keying.proofs.Common.{history}
use Rattle.keying.proofs.Tails.{exact_tail, lingers_history}
use Rattle.keying.proofs.laws.the_tail_is_exact.Goals as goal

pub returns : goal.returns
returns c = λ words calls sounds.
    exact_tail words (history words calls) sounds (lingers_history words calls)
