use Rattle.fx25_receiver.proofs.Common.{subst, sym}
use Rattle.fx25_receiver.specs.Held.{Held, StandsFor, LanesStandFor}
use Rattle.fx25_receiver.proofs.receiver.Fx25Receiver.is_block_coming.Goals as goal

pub returns : goal.returns
returns c = λ x given stands.
    let stood = subst (λ (held : Held). StandsFor held x given) (sym c.self.view_is) stands in
    c.is_some_block_coming.ensures x
    (subst (λ lanes. LanesStandFor lanes x) (sym c.deref.ensures.value) stood.taken.lanes_stand)
