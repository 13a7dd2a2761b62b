use Rattle.link_machine.proofs.Common.{◌≡◌, ℕ, ◌%◌, refl, sym, ◌∙◌, ap, subst, Option, None, StandsForIncoming, IsReady}
use Rattle.link_machine.proofs.Common.{next_missing, send_srej, changing, Shows, Turn}
use Rattle.selective_reject.specs.Incoming.{after_ask_next, asked_for}
use Rattle.link_machine.specs.Seizing.{missing_asked}
use Rattle.link_machine.specs.declared.machine.Machine.{Machine as Held}
use Rattle.link_machine.proofs.Showing.{shows_changing, holds_incoming, same_incoming}
use Rattle.link_machine.proofs.Asking.{ready_asked, asked_modulus, srej_sent, none_to_ask}
use Rattle.link_machine.proofs.machine.Machine.send_srej.Goals as goal

pub returns-in-Some-clause-shows : goal.returns-in-Some-clause-shows
returns-in-Some-clause-shows c = λ t h.
    let held = c.args.self.now in
    let i = t.now.incoming in
    let asks = c.ask_next.ensures.stands_for i h.holds.stands.incoming in
    let ready : IsReady c.ask_next.new.self =
    subst IsReady (sym c.ask_next.ensures.store) (ready_asked held.incoming h.holds.next) in
    let after : Held = record held { incoming = c.ask_next.new.self } in
    let asked = shows_changing missing_asked held after c.args.room.now t refl h
    (holds_incoming held t.now c.ask_next.new.self (after_ask_next i) h.holds asks.1 c.ask_next.ensures.formed ready) in
    let modulus : c.ask_next.new.self.modulus ≡ i.modulus = asks.1.modulus ∙ asked_modulus (next_missing i) i in
    let P : Turn → Type 0 = λ x. Shows after c.send_super.new.room x in
    srej_sent t (next_missing i) c.in-Some.nr P (sym asks.0 ∙ c.in-Some.is)
    (λ n e. c.send_super.ensures.shows (changing missing_asked t) n asked (e ∙ ap (λ k. n % k) (sym modulus)))

pub returns-in_default-clause-shows : goal.returns-in_default-clause-shows
returns-in_default-clause-shows c = λ t h.
    let held = c.args.self.now in
    let i = t.now.incoming in
    let asks = c.ask_next.ensures.stands_for i h.holds.stands.incoming in
    let ready : IsReady c.ask_next.new.self =
    subst IsReady (sym c.ask_next.ensures.store) (ready_asked held.incoming h.holds.next) in
    let none : next_missing i ≡ None = none_to_ask i (next_missing i) (sym asks.0 ∙ c.in_default.is) in
    let S : Option ℕ → Type 0 = λ o. StandsForIncoming c.ask_next.new.self (asked_for o i) in
    let P : Option ℕ → Type 0 = λ o. Shows (record held { incoming = c.ask_next.new.self }) c.args.room.now
    (send_srej o t) in
    subst P (sym none) (same_incoming held c.ask_next.new.self c.args.room.now t h (subst S none asks.1)
    c.ask_next.ensures.formed ready)
