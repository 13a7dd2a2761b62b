use Rattle.channel_access.proofs.Common.{◌∙◌, sym, subst, Held, StandsFor}
use Rattle.channel_access.proofs.TakingLemmas.{last_of}
use Rattle.channel_access.proofs.access.Access.takes_last.Goals as goal

pub returns : goal.returns
returns c channel h =
    let held = subst (λ (k : Held). StandsFor k channel) (sym c.self.view_is) h in
    c.takes_last.ensures ∙ last_of c.self.inside.transmitter channel held
