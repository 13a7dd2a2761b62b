use Rattle.link_machine.proofs.Common.{◌≡◌, ℕ, ◌+◌, ◌%◌, Option, refl, sym, ◌∙◌, ap, subst, left_with, send_again}
use Rattle.link_machine.proofs.Common.{Shows}
use Rattle.selective_reject.specs.Outgoing.{after_again}
use Rattle.link_machine.specs.declared.machine.Machine.{Machine as Held}
use Rattle.link_machine.proofs.Showing.{shows_changing, holds_outgoing}
use Rattle.link_machine.proofs.Informing.{stands_again}
use Rattle.link_machine.proofs.machine.Machine.send_again.Goals as goal

pub returns-clause-shows : goal.returns-clause-shows
returns-clause-shows c = λ t h first is.
    let held = c.args.self.now in
    let o = t.now.outgoing in
    let left = after_again o in
    let n = o.va + c.args.place in
    let popped : Held = record held { outgoing = c.take_again.new.self } in
    let one = shows_changing (left_with left) held popped c.args.room.now t refl h
    (holds_outgoing held t.now c.take_again.new.self left h.holds c.take_again.ensures.formed
    (stands_again held.outgoing o c.take_again.new.self c.take_again.ensures.store h.holds.stands.outgoing)) in
    let number : c.number-ns.result ≡ n % held.incoming.modulus =
    c.number-ns.ensures.stands_for o h.holds.stands.outgoing ∙ ap (λ k. n % k) c.modulus.ensures.value in
    let P : Option ℕ → Type 0 = λ f. Shows c.send_info.new.self c.send_info.new.room
    (send_again c.args.last c.args.full f t) in
    subst P (sym first) (c.send_info.ensures.shows t c.args.place left one number is)
