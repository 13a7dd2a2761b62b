use Rattle.link_machine.proofs.Common.{◌≡◌, ◌∙◌, ◌&&◌, ◌==◌, Ok, Err, ap, sym, length, acknowledgement}
use Rattle.link_machine.proofs.Leaving.{invalid_asks, valid_asks}
use Rattle.link_machine.proofs.machine.Machine.number_asks.Goals as goal

pub returns-in_default : goal.returns-in_default
returns-in_default c = λ m h.
    let held = c.args.self.now in
    let is : acknowledgement held.incoming.modulus c.args.nr held.outgoing ≡ Err c.in_default.field-0 =
    ap (λ k. acknowledgement k c.args.nr held.outgoing) (sym c.modulus.ensures.value)
    ∙ sym c.acknowledgement.ensures.count ∙ c.in_default.is in
    sym (invalid_asks held m c.args.nr c.in_default.field-0 h is)

pub returns-then-self : goal.returns-then-self
returns-then-self c = λ m h.
    let held = c.args.self.now in
    let is : acknowledgement held.incoming.modulus c.args.nr held.outgoing ≡ Ok c.in-Ok.count =
    ap (λ k. acknowledgement k c.args.nr held.outgoing) (sym c.modulus.ensures.value)
    ∙ sym c.acknowledgement.ensures.count ∙ c.in-Ok.is in
    ap (λ k. k == c.len.result) c.from.ensures
    ∙ ap (λ k. c.in-Ok.count == k) c.len.ensures.count
    ∙ ap (λ b. b && c.in-Ok.count == length held.outgoing.packets) (sym c.if-self.true)
    ∙ sym (valid_asks held m c.args.nr c.in-Ok.count h is c.in-Ok.ensures.within)

pub returns-else-self : goal.returns-else-self
returns-else-self c = λ m h.
    let held = c.args.self.now in
    let is : acknowledgement held.incoming.modulus c.args.nr held.outgoing ≡ Ok c.in-Ok.count =
    ap (λ k. acknowledgement k c.args.nr held.outgoing) (sym c.modulus.ensures.value)
    ∙ sym c.acknowledgement.ensures.count ∙ c.in-Ok.is in
    c.if-self.false
    ∙ ap (λ b. b && c.in-Ok.count == length held.outgoing.packets) (sym c.if-self.false)
    ∙ sym (valid_asks held m c.args.nr c.in-Ok.count h is c.in-Ok.ensures.within)
