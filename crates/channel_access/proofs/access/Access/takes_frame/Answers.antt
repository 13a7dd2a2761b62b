use Rattle.channel_access.proofs.Common.{◌∙◌, sym, subst, Held, StandsFor}
use Rattle.channel_access.proofs.TakingLemmas.{takes_of}
use Rattle.channel_access.proofs.access.Access.takes_frame.Goals as goal

pub returns : goal.returns
returns c channel h =
    let held = subst (λ (k : Held). StandsFor k channel) (sym c.self.view_is) h in
    c.takes_frame.ensures ∙ takes_of c.self.inside.transmitter channel held
