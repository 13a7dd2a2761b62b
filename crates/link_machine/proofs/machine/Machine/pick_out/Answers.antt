use Rattle.link_machine.proofs.Common.{ℕ, ◌-◌, true, false, nat_lt, sym, ◌∙◌, ap, subst, ahead, StandsForOutgoing}
use Rattle.selective_reject.specs.Outgoing.{after_ask_again}
use Rattle.link_machine.proofs.Events.{sent_number, holds_picked}
use Rattle.link_machine.proofs.machine.Machine.pick_out.Goals as goal

pub returns-then-ask_again : goal.returns-then-ask_again
returns-then-ask_again c = λ m h.
    let held = c.args.self.now in
    let S : ℕ → Type 0 = λ k. StandsForOutgoing c.ask_again.new.self (after_ask_again k c.args.nr m.outgoing) in
    holds_picked true held m c.ask_again.new.self c.args.nr h
    (sym c.if-ask_again.true ∙ c.ask_again.ensures.sent
    ∙ ap (λ k. nat_lt (ahead k held.outgoing.va c.args.nr) (held.outgoing.top - held.outgoing.va)) c.modulus.ensures.value
    ∙ sent_number held m c.args.nr h)
    (subst S (c.modulus.ensures.value ∙ h.stands.incoming.modulus)
    (c.ask_again.ensures.stands_for m.outgoing h.stands.outgoing)) c.ask_again.ensures.formed

pub returns-else-ask_again : goal.returns-else-ask_again
returns-else-ask_again c = λ m h.
    let held = c.args.self.now in
    let S : ℕ → Type 0 = λ k. StandsForOutgoing c.ask_again.new.self (after_ask_again k c.args.nr m.outgoing) in
    holds_picked false held m c.ask_again.new.self c.args.nr h
    (sym c.if-ask_again.false ∙ c.ask_again.ensures.sent
    ∙ ap (λ k. nat_lt (ahead k held.outgoing.va c.args.nr) (held.outgoing.top - held.outgoing.va)) c.modulus.ensures.value
    ∙ sent_number held m c.args.nr h)
    (subst S (c.modulus.ensures.value ∙ h.stands.incoming.modulus)
    (c.ask_again.ensures.stands_for m.outgoing h.stands.outgoing)) c.ask_again.ensures.formed
