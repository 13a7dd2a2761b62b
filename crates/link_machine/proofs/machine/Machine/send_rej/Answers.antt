use Rattle.link_machine.proofs.Common.{Bool, ap, false, subst, Rej, SuperSent, Control, setting, sending, rejected, Shows}
use Rattle.link_machine.specs.declared.machine.Machine.{Machine as Held}
use Rattle.link_machine.proofs.Showing.{shows_setting, vr_as_sent}
use Rattle.link_machine.proofs.machine.Machine.send_rej.Goals as goal

pub returns-clause-shows : goal.returns-clause-shows
returns-clause-shows c = λ t h.
    let held : Held = record c.args.self.now { control = rejected c.args.self.now.control } in
    let nr = vr_as_sent c.args.self.now t.now c.vr.result h.holds
    (c.vr.ensures.stands_for t.now.incoming h.holds.stands.incoming) in
    let owed = shows_setting rejected c.args.self.now c.args.room.now t h in
    let P : Bool → Type 0 = λ b. Shows held c.send_super.new.room
    (sending (SuperSent Rej false t.now.incoming.vr b) (setting rejected t)) in
    subst P (ap (λ (x : Control). x.answer) h.holds.stands.control)
    (c.send_super.ensures.shows (setting rejected t) t.now.incoming.vr owed nr)
