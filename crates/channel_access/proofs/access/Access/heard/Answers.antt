use Rattle.channel_access.proofs.Common.{sym, subst, Held, StandsFor, StandsForSome}
use Rattle.channel_access.specs.Channel.{with_heard}
use Rattle.channel_access.proofs.AccessLemmas.{stands_heard}
use Rattle.channel_access.proofs.access.Access.heard.Goals as goal

pub invariant_of-self : goal.invariant_of-self
invariant_of-self c =
    let some = c.self.invariant in
    subst StandsForSome (sym (c.hear.ensures some.0.past some.1.listening))
    (with_heard c.args.ours some.0, stands_heard c.args.ours c.self.inside.transmitter some.0 some.1)

pub returns : goal.returns
returns c channel h =
    let held = subst (λ (k : Held). StandsFor k channel) (sym c.self.view_is) h in
    subst (λ (k : Held). StandsFor k (with_heard c.args.ours channel))
    (sym (c.hear.ensures channel.past held.listening))
    (stands_heard c.args.ours c.self.inside.transmitter channel held)
