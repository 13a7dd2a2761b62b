use Rattle.channel_access.proofs.Common.{◌≡◌, subst, sym, with_frame, Held, held_with_frame, StandsFor, StandsForSome}
use Rattle.std.proofs.Common.{Result, Ok, Err}
use Rattle.std.specs.Result.{OnOk, IfErr}
use Rattle.std.proofs.lemmas.Result.{on_ok_weaker}
use Rattle.channel_access.proofs.QueueLemmas.{stands_queued}
use Rattle.channel_access.proofs.access.Access.queue.Goals as goal

-- what holds of an access after either answer
either : {T E : Type 0} (Q : E → Type 0) (r : Result T E) (old queued new : Held) → OnOk r (new ≡ queued)
    → IfErr r (λ e. Q e × (new ≡ old)) → StandsForSome queued → StandsForSome old → StandsForSome new
either Q (Ok x) old queued new is same there here = subst StandsForSome (sym is) there
either Q (Err e) old queued new is same there here = subst StandsForSome (sym same.1) here

pub invariant_of-self : goal.invariant_of-self
invariant_of-self c =
    let some = c.self.invariant in
    let held : Held = c.self.inside.transmitter in
    either (λ back. back ≡ c.args.octets) c.queue.result held (held_with_frame c.args.link c.args.octets held)
    c.queue.new.self c.queue.ensures.queued c.queue.ensures.handed_back
    (with_frame c.args.link c.args.octets some.0, stands_queued c.args.link c.args.octets held some.0 c.requires some.1)
    some

pub returns-clause-stands_for : goal.returns-clause-stands_for
returns-clause-stands_for c = λ channel h.
    let held : Held = c.self.inside.transmitter in
    on_ok_weaker c.queue.result
    (λ queued. subst (λ k. StandsFor k (with_frame c.args.link c.args.octets channel)) (sym queued)
    (stands_queued c.args.link c.args.octets held channel c.requires
    (subst (λ k. StandsFor k channel) (sym c.self.view_is) h)))
    c.queue.ensures.queued
