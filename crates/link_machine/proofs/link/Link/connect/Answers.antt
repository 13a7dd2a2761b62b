use Rattle.link_machine.proofs.Common.{◌≡◌, length, false, sym, ◌∙◌, ap, subst, refusal, Connect, StandsFor, refusal_of}
use Rattle.std.proofs.Common.{is_some}
use Rattle.link_machine.specs.declared.machine.Machine.{Machine as Held}
use Rattle.link_machine.proofs.Events.{itself, holds_itself}
use Rattle.link_machine.proofs.Answered.{answers_right, free_of, holds_of}
use Rattle.link_machine.proofs.Writable.{kept_following, kept_by}
use Rattle.link_machine.proofs.link.Link.connect.Goals as goal

pub invariant_of-self-2 : goal.invariant_of-self-2
invariant_of-self-2 c =
    let held = c.self.inside.machine in
    let free : is_some (refusal_of (itself held) Connect) ≡ false =
    ap is_some (ap (λ (h : Held). refusal h.control (length h.outgoing.packets) Connect) c.self.view_is
    ∙ sym c.connect_refusal.ensures ∙ c.in_default.is) in
    (kept_by held c.take_connect.new.self Connect c.take_connect.result c.self.invariant free c.take_connect.ensures).0

pub returns-clause-writable : goal.returns-clause-writable
returns-clause-writable c =
    let held = c.self.inside.machine in
    let free : is_some (refusal_of (itself held) Connect) ≡ false =
    ap is_some (ap (λ (h : Held). refusal h.control (length h.outgoing.packets) Connect) c.self.view_is
    ∙ sym c.connect_refusal.ensures ∙ c.in_default.is) in
    let made = c.in_ok-acts.ensures (itself held) (holds_itself held c.self.invariant.whole) in
    (kept_following held c.take_connect.new.self Connect c.in_ok-acts.acts c.self.invariant free made).1

pub returns-clause-step : goal.returns-clause-step
returns-clause-step c = λ m h.
    let P : Held → Type 0 = λ x. StandsFor x m in
    let stands : StandsFor c.self.inside.machine m = subst P (sym c.self.view_is) h in
    let free = free_of c.args.self.now m Connect c.connect_refusal.result c.connect_refusal.ensures c.in_default.is h in
    (answers_right c.take_connect.new.self m Connect c.in_ok-acts.acts free
    (c.in_ok-acts.ensures m (holds_of c.self.inside.machine m c.self.invariant.whole stands))).0

pub returns-clause-stands_for : goal.returns-clause-stands_for
returns-clause-stands_for c = λ m h.
    let P : Held → Type 0 = λ x. StandsFor x m in
    let stands : StandsFor c.self.inside.machine m = subst P (sym c.self.view_is) h in
    let free = free_of c.args.self.now m Connect c.connect_refusal.result c.connect_refusal.ensures c.in_default.is h in
    (answers_right c.take_connect.new.self m Connect c.in_ok-acts.acts free
    (c.in_ok-acts.ensures m (holds_of c.self.inside.machine m c.self.invariant.whole stands))).1
