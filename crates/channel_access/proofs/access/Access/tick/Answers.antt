use Rattle.channel_access.proofs.Common.{◌∙◌, sym, subst, AirTick, Takes, after_tick, Held, StandsFor, StandsForSome}
use Rattle.channel_access.proofs.AccessLemmas.{tick_of}
use Rattle.channel_access.proofs.access.Access.tick.Goals as goal

pub invariant_of-self : goal.invariant_of-self
invariant_of-self c =
    let some = c.self.invariant in
    subst StandsForSome (sym (c.tick.ensures.held some.0.past some.1.listening))
    (after_tick c.args.busy c.args.wants some.0, (tick_of c.args.busy c.args.wants c.self.inside.transmitter some.0 some.1).after)

pub returns-clause-tick : goal.returns-clause-tick
returns-clause-tick c channel h =
    let held = subst (λ (k : Held). StandsFor k channel) (sym c.self.view_is) h in
    c.tick.ensures.tick channel.past held.listening
    ∙ (tick_of c.args.busy c.args.wants c.self.inside.transmitter channel held).tick

pub returns-clause-stands_for : goal.returns-clause-stands_for
returns-clause-stands_for c channel h =
    let held = subst (λ (k : Held). StandsFor k channel) (sym c.self.view_is) h in
    let P : Held → Type 0 = λ k. StandsFor k (after_tick c.args.busy c.args.wants channel) in
    subst P (sym (c.tick.ensures.held channel.past held.listening))
    (tick_of c.args.busy c.args.wants c.self.inside.transmitter channel held).after

pub returns-clause-order : goal.returns-clause-order
returns-clause-order c channel h =
    let held = subst (λ (k : Held). StandsFor k channel) (sym c.self.view_is) h in
    let t = tick_of c.args.busy c.args.wants c.self.inside.transmitter channel held in
    let P : AirTick → Type 0 = λ tick. Takes tick.sent channel.waiting (after_tick c.args.busy c.args.wants channel).waiting in
    subst P (sym (c.tick.ensures.tick channel.past held.listening ∙ t.tick)) t.order
