use Rattle.fx25_ring.proofs.Common.{Option, HeldAll, Tells, subst}
use Rattle.std.proofs.lemmas.Result.{IfOk-weaker}
use Rattle.fx25_ring.proofs.telling.tell.Goals as goal

pub returns-in-Some-clause-told : goal.returns-in-Some-clause-told
returns-in-Some-clause-told c =
    IfOk-weaker c.block.result _ _ (λ told gives before after x given eight h.
    gives x given (subst (λ (a : Option HeldAll). Tells before a x given) c.in-Some.is h))
    c.block.ensures.given
