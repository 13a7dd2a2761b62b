use Rattle.link_machine.proofs.Common.{Bool, refl, sym, subst, answering, polled, setting, nothing_asked, Shows, IsReady}
use Rattle.selective_reject.specs.Incoming.{unasked_store}
use Rattle.link_machine.specs.declared.machine.Machine.{Machine as Held}
use Rattle.link_machine.proofs.Showing.{shows_setting, shows_changing, holds_incoming}
use Rattle.link_machine.proofs.Asking.{ready_unasked}
use Rattle.link_machine.proofs.machine.Machine.hear_poll.Goals as goal

pub returns-then-asks : goal.returns-then-asks
returns-then-asks c = λ room t h.
    let held : Held = record c.args.self.now { control = answering c.args.self.now.control } in
    let answers = shows_setting answering c.args.self.now room t h in
    let i = t.now.incoming in
    let ready : IsReady c.unask.new.self =
    subst IsReady (sym c.unask.ensures.store) (ready_unasked c.args.self.now.incoming h.holds.next) in
    let asked = shows_changing nothing_asked held _ room (setting answering t) refl answers
    (holds_incoming held (setting answering t).now c.unask.new.self (unasked_store i) answers.holds
    (c.unask.ensures.stands_for i h.holds.stands.incoming) c.unask.ensures.formed ready) in
    let P : Bool → Type 0 = λ b. Shows (record held { incoming = c.unask.new.self }) room (polled b t) in
    subst P (sym c.if-asks.true) asked
