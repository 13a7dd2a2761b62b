use Rattle.link_machine.proofs.Common.{◌≡◌, ℕ, ◌+◌, ◌-◌, ◌%◌, ◌≤◌, refl, sym, ◌∙◌, ap, subst, arith, Option, Some, left_with}
use Rattle.link_machine.proofs.Common.{StandsForOutgoing, after_next, number_to_send, cond-true}
use Rattle.selective_reject.specs.Outgoing.{may_send}
use Rattle.link_machine.specs.declared.machine.Machine.{Machine as Held}
use Rattle.link_machine.proofs.Showing.{shows_changing, holds_outgoing}
use Rattle.link_machine.proofs.Informing.{number_of, may_by_window}
use Rattle.link_machine.proofs.Events.{in_number_order}
use Rattle.link_machine.proofs.machine.Machine.send_next.Goals as goal

pub returns-clause-shows : goal.returns-clause-shows
returns-clause-shows c = λ t h may is.
    let held = c.args.self.now in
    let o = t.now.outgoing in
    let w = t.now.incoming.window in
    let n = o.va + (o.vs - o.va) in
    let left = after_next w o in
    let window : c.window-window.result ≡ w = c.window-window.ensures.value ∙ h.holds.stands.incoming.window in
    let went = c.next.ensures.stands_for o h.holds.stands.outgoing in
    let S : ℕ → Type 0 = λ k. StandsForOutgoing c.next.new.self (after_next k o) in
    let gone : Held = record held { outgoing = c.next.new.self } in
    let one = shows_changing (left_with left) held gone c.args.room.now t refl h
    (holds_outgoing held t.now c.next.new.self left h.holds c.next.ensures.formed (subst S window went.1)) in
    let low : o.va ≤ o.vs = (in_number_order held.outgoing o h.holds.formed.outgoing h.holds.stands.outgoing).0 in
    let sum : o.vs ≡ n = omega arith in
    let said : ◌≡◌ {A = Option ℕ} (Some c.in-Some.ns) (Some (o.vs % c.modulus-modulus.result)) =
    sym c.in-Some.is ∙ went.0 ∙ ap (λ k. number_to_send c.modulus-modulus.result k o) window
    ∙ cond-true (may_send w o) _ _ (may_by_window t.now may) in
    let number : c.in-Some.ns ≡ n % held.incoming.modulus =
    ap number_of said ∙ ap (λ k. o.vs % k) c.modulus-modulus.ensures.value
    ∙ ap (λ k. k % held.incoming.modulus) sum in
    c.send_info.ensures.shows t (o.vs - o.va) left one number is
